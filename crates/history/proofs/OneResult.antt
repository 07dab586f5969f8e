-- One result: for every public function, two results that both satisfy its promise are equal, record, store and buffers included.
-- Assumes nothing.
use mathlib.Core.Path.{◌≡◌, sym, ap, ◌∙◌}
use mathlib.Core.List.{List, []}
use mathlib.Core.Bool.{Bool}
use Rattle.std.specs.Prelude.{Option, Result}
use Prim.Native.Nat.{ℕ}
use Rattle.delivery.specs.declared.Hearing.{Hearing}
use Rattle.matching.specs.declared.Best.{Best}
use Rattle.net.specs.declared.Descriptor.{Descriptor}
use Rattle.net.specs.declared.Flow.{Flow}
use Rattle.net.specs.declared.InterfaceId.{InterfaceId}
use Rattle.net.specs.declared.Port.{Port}
use Rattle.outqueue.specs.declared.OutQueue.{OutQueue}
use Rattle.queues.specs.declared.Queues.{Queues}
use Rattle.state.specs.declared.Interface.{Interface}
use Rattle.state.specs.declared.Socket.{Socket}
use Rattle.answers.specs.declared.Answer.{Answer}
use Rattle.answers.specs.declared.Refusal.{Refusal}
use Rattle.answers.specs.declared.SocketOption.{SocketOption}
use Rattle.answers.proofs.Refusals.{refused_once, named_once}
use Rattle.queues.specs.Moves as queues
use Rattle.outqueue.specs.Moves as out
use Rattle.delivery.specs.declared.Landing.{Landing}
use Rattle.delivery.specs.Landing.{Landed, landed}
use Rattle.delivery.proofs.Told.{same_hearing, same_landing}
use Rattle.host.specs.declared.Stepped.{Stepped}
use Rattle.host.specs.Answers.{Outcome, outcome}
use Rattle.net.proofs.UsizeFromDescriptor.from.Reads as net_usize_from_descriptor
use Rattle.net.proofs.no_flow.Reads as net_no_flow
use Rattle.net.proofs.is_loopback.Reads as net_is_loopback
use Rattle.net.proofs.is_martian.Reads as net_is_martian
use Rattle.net.proofs.is_stray.Reads as net_is_stray
use Rattle.net.proofs.is_agreed.Reads as net_is_agreed
use Rattle.store.proofs.clear.Reads as store_clear
use Rattle.store.proofs.slot_write.Reads as store_slot_write
use Rattle.store.proofs.slot_copy.Reads as store_slot_copy
use Rattle.store.proofs.slot_zero.Reads as store_slot_zero
use Rattle.store.proofs.slots_pop.Reads as store_slots_pop
use Rattle.store.proofs.slot_read.Reads as store_slot_read
use Rattle.state.proofs.interfaces.no_interface.Reads as state_interfaces_no_interface
use Rattle.state.proofs.interfaces.has.Reads as state_interfaces_has
use Rattle.state.proofs.interfaces.are_accepted.Reads as state_interfaces_are_accepted
use Rattle.state.proofs.interfaces.is_ours_of.Reads as state_interfaces_is_ours_of
use Rattle.state.proofs.interfaces.is_own.Reads as state_interfaces_is_own
use Rattle.state.proofs.interfaces.is_ours.Reads as state_interfaces_is_ours
use Rattle.state.proofs.interfaces.holder.Reads as state_interfaces_holder
use Rattle.state.proofs.sockets.are_sockets.Reads as state_sockets_are_sockets
use Rattle.state.proofs.sockets.is_overlap.Reads as state_sockets_is_overlap
use Rattle.state.proofs.sockets.are_compatible.Reads as state_sockets_are_compatible
use Rattle.state.proofs.sockets.are_apart.Reads as state_sockets_are_apart
use Rattle.state.proofs.sockets.is_open.Reads as state_sockets_is_open
use Rattle.state.proofs.threads.is_thread.Reads as state_threads_is_thread
use Rattle.state.proofs.threads.is_ended.Reads as state_threads_is_ended
use Rattle.state.proofs.threads.is_waiting.Reads as state_threads_is_waiting
use Rattle.state.proofs.threads.awaited.Reads as state_threads_awaited
use Rattle.answers.proofs.numbered.Reads as answers_numbered
use Rattle.answers.proofs.with_descriptor.Reads as answers_with_descriptor
use Rattle.answers.proofs.with_pair.Reads as answers_with_pair
use Rattle.answers.proofs.with_value.Reads as answers_with_value
use Rattle.answers.proofs.with_need.Reads as answers_with_need
use Rattle.answers.proofs.from_sender.Reads as answers_from_sender
use Rattle.answers.proofs.with_masks.Reads as answers_with_masks
use Rattle.answers.proofs.with_item.Reads as answers_with_item
use Rattle.answers.proofs.refused.Reads as answers_refused
use Rattle.answers.proofs.reported.Reads as answers_reported
use Rattle.answers.proofs.SocketOptionTryFromU8.try_from.Reads as answers_option_try_from
use Rattle.answers.proofs.tables.row.Reads as answers_tables_row
use Rattle.answers.proofs.tables.refuse_if.Reads as answers_tables_refuse_if
use Rattle.answers.proofs.tables.opening_rows.Reads as answers_tables_opening_rows
use Rattle.answers.proofs.tables.bind_rows.Reads as answers_tables_bind_rows
use Rattle.answers.proofs.tables.connect_rows.Reads as answers_tables_connect_rows
use Rattle.answers.proofs.tables.is_unknown.Reads as answers_tables_is_unknown
use Rattle.answers.proofs.tables.set_rows.Reads as answers_tables_set_rows
use Rattle.answers.proofs.tables.send_rows.Reads as answers_tables_send_rows
use Rattle.matching.proofs.ports.is_in_use.Reads as matching_ports_is_in_use
use Rattle.matching.proofs.ports.is_port_free.Reads as matching_ports_is_port_free
use Rattle.matching.proofs.ports.autobind.Reads as matching_ports_autobind
use Rattle.matching.proofs.routes.source.Reads as matching_routes_source
use Rattle.matching.proofs.scoring.score.Reads as matching_scoring_score
use Rattle.matching.proofs.scoring.winner.Reads as matching_scoring_winner
use Rattle.binding.proofs.new_socket.Reads as binding_new_socket
use Rattle.binding.proofs.no_socket.Reads as binding_no_socket
use Rattle.binding.proofs.lowest_closed.Reads as binding_lowest_closed
use Rattle.binding.proofs.with_local.Reads as binding_with_local
use Rattle.binding.proofs.with_remote.Reads as binding_with_remote
use Rattle.binding.proofs.with_error.Reads as binding_with_error
use Rattle.binding.proofs.with_options.Reads as binding_with_options
use Rattle.binding.proofs.port_for.Reads as binding_port_for
use Rattle.queues.proofs.Queues.are_queues.Reads as queues_are_queues
use Rattle.queues.proofs.Queues.empty.Reads as queues_empty
use Rattle.queues.proofs.Queues.push.Reads as queues_push
use Rattle.queues.proofs.Queues.take.Reads as queues_take
use Rattle.queues.proofs.Queues.clear.Reads as queues_clear
use Rattle.queues.proofs.Queues.clear_all.Reads as queues_clear_all
use Rattle.outqueue.proofs.source.Reads as outqueue_source
use Rattle.outqueue.proofs.destination.Reads as outqueue_destination
use Rattle.outqueue.proofs.OutQueue.are_items.Reads as outqueue_are_items
use Rattle.outqueue.proofs.OutQueue.empty.Reads as outqueue_empty
use Rattle.outqueue.proofs.OutQueue.add.Reads as outqueue_add
use Rattle.outqueue.proofs.OutQueue.add_notice.Reads as outqueue_add_notice
use Rattle.outqueue.proofs.OutQueue.remove.Reads as outqueue_remove
use Rattle.delivery.proofs.arrive.Reads as delivery_arrive
use Rattle.delivery.proofs.loop_back.Reads as delivery_loop_back
use Rattle.delivery.proofs.hear.Reads as delivery_hear
use Rattle.host.proofs.Host.well_formed.Reads as host_well_formed
use Rattle.host.proofs.Host.ready.Reads as host_ready
use Rattle.host.proofs.Host.datagram.Reads as host_datagram
use Rattle.host.proofs.Host.notice.Reads as host_notice
use Rattle.host.proofs.Host.close.Reads as host_close
use Rattle.host.proofs.Host.exit.Reads as host_exit
use Rattle.host.proofs.Host.out_step.Reads as host_out_step
use Rattle.host.proofs.Host.socket.Reads as host_socket
use Rattle.host.proofs.Host.bind.Reads as host_bind
use Rattle.host.proofs.Host.connect.Reads as host_connect
use Rattle.host.proofs.Host.disconnect.Reads as host_disconnect
use Rattle.host.proofs.Host.getsockname.Reads as host_getsockname
use Rattle.host.proofs.Host.getpeername.Reads as host_getpeername
use Rattle.host.proofs.Host.opening.Reads as host_opening
use Rattle.host.proofs.Host.geterr.Reads as host_geterr
use Rattle.host.proofs.Host.getopt.Reads as host_getopt
use Rattle.host.proofs.Host.setopt.Reads as host_setopt
use Rattle.host.proofs.Host.poll.Reads as host_poll
use Rattle.host.proofs.Host.recvfrom.Reads as host_recvfrom
use Rattle.host.proofs.Host.resume.Reads as host_resume
use Rattle.host.proofs.Host.interrupt.Reads as host_interrupt
use Rattle.host.proofs.Host.sendto.Reads as host_sendto

-- `Reads.Post` is the function's own promise: k its lifetimes, a its arguments, r its result, e its parameters at the end.
-- What `view` shows is the same for any two results and ends that satisfy the promise on the same arguments.
pub record Fixed {K : Type 0} {A R E : K → Type 0} {W : Type 0} (post : (k : K) → A k → R k → E k → Type 0) (view : (k : K) → A k → R k → E k → W) : Type 0 where
  pub fixed : (k : K) (a : A k) (r r' : R k) (e e' : E k) → post k a r e → post k a r' e' → view k a r e ≡ view k a r' e'

-- the table: what each view shows is the result, and every byte that the function may write
pub record OneResult : Type 0 where
  -- net
  pub net_usize_from_descriptor_once : Fixed {W = ℕ} net_usize_from_descriptor.Post (λ k a r e. r)
  pub net_no_flow_once : Fixed {W = Flow} net_no_flow.Post (λ k a r e. r)
  pub net_is_loopback_once : Fixed {W = Bool} net_is_loopback.Post (λ k a r e. r)
  pub net_is_martian_once : Fixed {W = Bool} net_is_martian.Post (λ k a r e. r)
  pub net_is_stray_once : Fixed {W = Bool} net_is_stray.Post (λ k a r e. r)
  pub net_is_agreed_once : Fixed {W = Bool} net_is_agreed.Post (λ k a r e. r)
  -- store
  pub store_clear_once : Fixed {W = List ℕ} store_clear.Post (λ k a r e. e.0.now)
  pub store_slot_write_once : Fixed {W = List ℕ} store_slot_write.Post (λ k a r e. e.0.now)
  pub store_slot_copy_once : Fixed {W = List ℕ} store_slot_copy.Post (λ k a r e. e.0.now)
  pub store_slot_zero_once : Fixed {W = List ℕ} store_slot_zero.Post (λ k a r e. e.0.now)
  pub store_slots_pop_once : Fixed {W = List ℕ} store_slots_pop.Post (λ k a r e. e.0.now)
  pub store_slot_read_once : Fixed {W = List ℕ} store_slot_read.Post (λ k a r e. e.1.1.0.now)
  -- state
  pub state_interfaces_no_interface_once : Fixed {W = Interface} state_interfaces_no_interface.Post (λ k a r e. r)
  pub state_interfaces_has_once : Fixed {W = Bool} state_interfaces_has.Post (λ k a r e. r)
  pub state_interfaces_are_accepted_once : Fixed {W = Bool} state_interfaces_are_accepted.Post (λ k a r e. r)
  pub state_interfaces_is_ours_of_once : Fixed {W = Bool} state_interfaces_is_ours_of.Post (λ k a r e. r)
  pub state_interfaces_is_own_once : Fixed {W = Bool} state_interfaces_is_own.Post (λ k a r e. r)
  pub state_interfaces_is_ours_once : Fixed {W = Bool} state_interfaces_is_ours.Post (λ k a r e. r)
  pub state_interfaces_holder_once : Fixed {W = InterfaceId} state_interfaces_holder.Post (λ k a r e. r)
  pub state_sockets_are_sockets_once : Fixed {W = Bool} state_sockets_are_sockets.Post (λ k a r e. r)
  pub state_sockets_is_overlap_once : Fixed {W = Bool} state_sockets_is_overlap.Post (λ k a r e. r)
  pub state_sockets_are_compatible_once : Fixed {W = Bool} state_sockets_are_compatible.Post (λ k a r e. r)
  pub state_sockets_are_apart_once : Fixed {W = Bool} state_sockets_are_apart.Post (λ k a r e. r)
  pub state_sockets_is_open_once : Fixed {W = Bool} state_sockets_is_open.Post (λ k a r e. r)
  pub state_threads_is_thread_once : Fixed {W = Bool} state_threads_is_thread.Post (λ k a r e. r)
  pub state_threads_is_ended_once : Fixed {W = Bool} state_threads_is_ended.Post (λ k a r e. r)
  pub state_threads_is_waiting_once : Fixed {W = Bool} state_threads_is_waiting.Post (λ k a r e. r)
  pub state_threads_awaited_once : Fixed {W = Option Descriptor} state_threads_awaited.Post (λ k a r e. r)
  -- answers
  pub answers_numbered_once : Fixed {W = Answer} answers_numbered.Post (λ k a r e. r)
  pub answers_with_descriptor_once : Fixed {W = Answer} answers_with_descriptor.Post (λ k a r e. r)
  pub answers_with_pair_once : Fixed {W = Answer} answers_with_pair.Post (λ k a r e. r)
  pub answers_with_value_once : Fixed {W = Answer} answers_with_value.Post (λ k a r e. r)
  pub answers_with_need_once : Fixed {W = Answer} answers_with_need.Post (λ k a r e. r)
  pub answers_from_sender_once : Fixed {W = Answer} answers_from_sender.Post (λ k a r e. r)
  pub answers_with_masks_once : Fixed {W = Answer} answers_with_masks.Post (λ k a r e. r)
  pub answers_with_item_once : Fixed {W = Answer} answers_with_item.Post (λ k a r e. r)
  pub answers_refused_once : Fixed {W = Answer} answers_refused.Post (λ k a r e. r)
  pub answers_reported_once : Fixed {W = Answer} answers_reported.Post (λ k a r e. r)
  pub answers_option_try_from_once : Fixed {W = Result SocketOption Refusal} answers_option_try_from.Post (λ k a r e. r)
  pub answers_tables_row_once : Fixed {W = ℕ} answers_tables_row.Post (λ k a r e. r)
  pub answers_tables_refuse_if_once : Fixed {W = Result (Unit {0}) Refusal} answers_tables_refuse_if.Post (λ k a r e. r)
  pub answers_tables_opening_rows_once : Fixed {W = Result (Unit {0}) Refusal} answers_tables_opening_rows.Post (λ k a r e. r)
  pub answers_tables_bind_rows_once : Fixed {W = Result (Unit {0}) Refusal} answers_tables_bind_rows.Post (λ k a r e. r)
  pub answers_tables_connect_rows_once : Fixed {W = Result (Unit {0}) Refusal} answers_tables_connect_rows.Post (λ k a r e. r)
  pub answers_tables_is_unknown_once : Fixed {W = Bool} answers_tables_is_unknown.Post (λ k a r e. r)
  pub answers_tables_set_rows_once : Fixed {W = Result SocketOption Refusal} answers_tables_set_rows.Post (λ k a r e. r)
  pub answers_tables_send_rows_once : Fixed {W = Result (Unit {0}) Refusal} answers_tables_send_rows.Post (λ k a r e. r)
  -- matching
  pub matching_ports_is_in_use_once : Fixed {W = Bool} matching_ports_is_in_use.Post (λ k a r e. r)
  pub matching_ports_is_port_free_once : Fixed {W = Bool} matching_ports_is_port_free.Post (λ k a r e. r)
  pub matching_ports_autobind_once : Fixed {W = ℕ} matching_ports_autobind.Post (λ k a r e. r.0)
  pub matching_routes_source_once : Fixed {W = ℕ} matching_routes_source.Post (λ k a r e. r)
  pub matching_scoring_score_once : Fixed {W = ℕ} matching_scoring_score.Post (λ k a r e. r)
  pub matching_scoring_winner_once : Fixed {W = Option Best} matching_scoring_winner.Post (λ k a r e. r)
  -- binding
  pub binding_new_socket_once : Fixed {W = Socket} binding_new_socket.Post (λ k a r e. r)
  pub binding_no_socket_once : Fixed {W = Socket} binding_no_socket.Post (λ k a r e. r)
  pub binding_lowest_closed_once : Fixed {W = Option ℕ} binding_lowest_closed.Post (λ k a r e. r)
  pub binding_with_local_once : Fixed {W = Socket} binding_with_local.Post (λ k a r e. r)
  pub binding_with_remote_once : Fixed {W = Socket} binding_with_remote.Post (λ k a r e. r)
  pub binding_with_error_once : Fixed {W = Socket} binding_with_error.Post (λ k a r e. r)
  pub binding_with_options_once : Fixed {W = Socket} binding_with_options.Post (λ k a r e. r)
  pub binding_port_for_once : Fixed {W = Port} binding_port_for.Post (λ k a r e. r)
  -- queues
  pub queues_are_queues_once : Fixed {W = Bool} queues_are_queues.Post (λ k a r e. r)
  pub queues_empty_once : Fixed {W = Queues} queues_empty.Post (λ k a r e. r)
  pub queues_push_once : Fixed {W = queues.Left} queues_push.Post (λ k a r e. queues.left r e.1.0.now [])
  pub queues_take_once : Fixed {W = queues.Left} queues_take.Post (λ k a r e. queues.left r e.1.0.now e.1.1.1.0.now)
  pub queues_clear_once : Fixed {W = queues.Left} queues_clear.Post (λ k a r e. queues.left r e.1.0.now [])
  pub queues_clear_all_once : Fixed {W = queues.Left} queues_clear_all.Post (λ k a r e. queues.left r e.0.now [])
  -- outqueue
  pub outqueue_source_once : Fixed {W = ℕ} outqueue_source.Post (λ k a r e. r)
  pub outqueue_destination_once : Fixed {W = ℕ} outqueue_destination.Post (λ k a r e. r)
  pub outqueue_are_items_once : Fixed {W = Bool} outqueue_are_items.Post (λ k a r e. r)
  pub outqueue_empty_once : Fixed {W = OutQueue} outqueue_empty.Post (λ k a r e. r)
  pub outqueue_add_once : Fixed {W = out.Left} outqueue_add.Post (λ k a r e. out.left r e.1.0.now)
  pub outqueue_add_notice_once : Fixed {W = out.Left} outqueue_add_notice.Post (λ k a r e. out.left r e.1.0.now)
  pub outqueue_remove_once : Fixed {W = out.Left} outqueue_remove.Post (λ k a r e. out.left r e.1.0.now)
  -- delivery
  pub delivery_arrive_once : Fixed {W = Landed} delivery_arrive.Post (λ k a r e. landed r e.1.1.1.0.now)
  pub delivery_loop_back_once : Fixed {W = Landed} delivery_loop_back.Post (λ k a r e. landed r e.1.1.1.0.now)
  pub delivery_hear_once : Fixed {W = Hearing} delivery_hear.Post (λ k a r e. r)
  -- host
  pub host_well_formed_once : Fixed {W = Bool} host_well_formed.Post (λ k a r e. r)
  pub host_ready_once : Fixed {W = Result (Unit {0}) Refusal} host_ready.Post (λ k a r e. r)
  pub host_datagram_once : Fixed {W = Outcome} host_datagram.Post (λ k a r e. outcome r e.1.0.now [])
  pub host_notice_once : Fixed {W = Outcome} host_notice.Post (λ k a r e. outcome r a.1.0.now [])
  pub host_close_once : Fixed {W = Outcome} host_close.Post (λ k a r e. outcome r e.1.0.now [])
  pub host_exit_once : Fixed {W = Outcome} host_exit.Post (λ k a r e. outcome r e.1.0.now [])
  pub host_out_step_once : Fixed {W = Outcome} host_out_step.Post (λ k a r e. outcome r e.1.0.now e.1.1.0.now)
  pub host_socket_once : Fixed {W = Outcome} host_socket.Post (λ k a r e. outcome r a.1.0.now [])
  pub host_bind_once : Fixed {W = Outcome} host_bind.Post (λ k a r e. outcome r a.1.0.now [])
  pub host_connect_once : Fixed {W = Outcome} host_connect.Post (λ k a r e. outcome r a.1.0.now [])
  pub host_disconnect_once : Fixed {W = Outcome} host_disconnect.Post (λ k a r e. outcome r a.1.0.now [])
  pub host_getsockname_once : Fixed {W = Outcome} host_getsockname.Post (λ k a r e. outcome r a.1.0.now [])
  pub host_getpeername_once : Fixed {W = Outcome} host_getpeername.Post (λ k a r e. outcome r a.1.0.now [])
  pub host_opening_once : Fixed {W = Outcome} host_opening.Post (λ k a r e. outcome r e.1.1.0.now [])
  pub host_geterr_once : Fixed {W = Outcome} host_geterr.Post (λ k a r e. outcome r a.1.0.now [])
  pub host_getopt_once : Fixed {W = Outcome} host_getopt.Post (λ k a r e. outcome r a.1.0.now [])
  pub host_setopt_once : Fixed {W = Outcome} host_setopt.Post (λ k a r e. outcome r a.1.0.now [])
  pub host_poll_once : Fixed {W = Outcome} host_poll.Post (λ k a r e. outcome r a.1.0.now [])
  pub host_recvfrom_once : Fixed {W = Outcome} host_recvfrom.Post (λ k a r e. outcome r e.1.0.now e.1.1.1.1.0.now)
  pub host_resume_once : Fixed {W = Outcome} host_resume.Post (λ k a r e. outcome r e.1.0.now e.1.1.0.now)
  pub host_interrupt_once : Fixed {W = Outcome} host_interrupt.Post (λ k a r e. outcome r a.1.0.now [])
  pub host_sendto_once : Fixed {W = Outcome} host_sendto.Post (λ k a r e. outcome r e.1.0.now [])

-- ---- its proof: each promise is an equation with one right side

pub one_result : OneResult
one_result =
    record {
      net_usize_from_descriptor_once = record { fixed = λ k a r r' e e' p q. p ∙ sym q };
      net_no_flow_once = record { fixed = λ k a r r' e e' p q. p ∙ sym q };
      net_is_loopback_once = record { fixed = λ k a r r' e e' p q. p ∙ sym q };
      net_is_martian_once = record { fixed = λ k a r r' e e' p q. p ∙ sym q };
      net_is_stray_once = record { fixed = λ k a r r' e e' p q. p ∙ sym q };
      net_is_agreed_once = record { fixed = λ k a r r' e e' p q. p ∙ sym q };
      store_clear_once = record { fixed = λ k a r r' e e' p q. p ∙ sym q };
      store_slot_write_once = record { fixed = λ k a r r' e e' p q. p ∙ sym q };
      store_slot_copy_once = record { fixed = λ k a r r' e e' p q. p ∙ sym q };
      store_slot_zero_once = record { fixed = λ k a r r' e e' p q. p ∙ sym q };
      store_slots_pop_once = record { fixed = λ k a r r' e e' p q. p ∙ sym q };
      store_slot_read_once = record { fixed = λ k a r r' e e' p q. p ∙ sym q };
      state_interfaces_no_interface_once = record { fixed = λ k a r r' e e' p q. p ∙ sym q };
      state_interfaces_has_once = record { fixed = λ k a r r' e e' p q. p ∙ sym q };
      state_interfaces_are_accepted_once = record { fixed = λ k a r r' e e' p q. p ∙ sym q };
      state_interfaces_is_ours_of_once = record { fixed = λ k a r r' e e' p q. p ∙ sym q };
      state_interfaces_is_own_once = record { fixed = λ k a r r' e e' p q. p ∙ sym q };
      state_interfaces_is_ours_once = record { fixed = λ k a r r' e e' p q. p ∙ sym q };
      state_interfaces_holder_once = record { fixed = λ k a r r' e e' p q. p ∙ sym q };
      state_sockets_are_sockets_once = record { fixed = λ k a r r' e e' p q. p ∙ sym q };
      state_sockets_is_overlap_once = record { fixed = λ k a r r' e e' p q. p ∙ sym q };
      state_sockets_are_compatible_once = record { fixed = λ k a r r' e e' p q. p ∙ sym q };
      state_sockets_are_apart_once = record { fixed = λ k a r r' e e' p q. p ∙ sym q };
      state_sockets_is_open_once = record { fixed = λ k a r r' e e' p q. p ∙ sym q };
      state_threads_is_thread_once = record { fixed = λ k a r r' e e' p q. p ∙ sym q };
      state_threads_is_ended_once = record { fixed = λ k a r r' e e' p q. p ∙ sym q };
      state_threads_is_waiting_once = record { fixed = λ k a r r' e e' p q. p ∙ sym q };
      state_threads_awaited_once = record { fixed = λ k a r r' e e' p q. p ∙ sym q };
      answers_numbered_once = record { fixed = λ k a r r' e e' p q. p ∙ sym q };
      answers_with_descriptor_once = record { fixed = λ k a r r' e e' p q. p ∙ sym q };
      answers_with_pair_once = record { fixed = λ k a r r' e e' p q. p ∙ sym q };
      answers_with_value_once = record { fixed = λ k a r r' e e' p q. p ∙ sym q };
      answers_with_need_once = record { fixed = λ k a r r' e e' p q. p ∙ sym q };
      answers_from_sender_once = record { fixed = λ k a r r' e e' p q. p ∙ sym q };
      answers_with_masks_once = record { fixed = λ k a r r' e e' p q. p ∙ sym q };
      answers_with_item_once = record { fixed = λ k a r r' e e' p q. p ∙ sym q };
      answers_refused_once = record { fixed = λ k a r r' e e' p q. p ∙ sym q };
      answers_reported_once = record { fixed = λ k a r r' e e' p q. p ∙ sym q };
      answers_option_try_from_once = record { fixed = λ k a r r' e e' p q. p ∙ sym q };
      answers_tables_row_once = record { fixed = λ k a r r' e e' p q. p ∙ sym q };
      answers_tables_refuse_if_once = record { fixed = λ k a r r' e e' p q. refused_once r r' (p ∙ sym q) };
      answers_tables_opening_rows_once = record { fixed = λ k a r r' e e' p q. refused_once r r' (p ∙ sym q) };
      answers_tables_bind_rows_once = record { fixed = λ k a r r' e e' p q. refused_once r r' (p ∙ sym q) };
      answers_tables_connect_rows_once = record { fixed = λ k a r r' e e' p q. refused_once r r' (p ∙ sym q) };
      answers_tables_is_unknown_once = record { fixed = λ k a r r' e e' p q. p ∙ sym q };
      answers_tables_set_rows_once = record { fixed = λ k a r r' e e' p q. named_once r r' a.1.0 (p.0 ∙ sym q.0) p.1 q.1 };
      answers_tables_send_rows_once = record { fixed = λ k a r r' e e' p q. refused_once r r' (p ∙ sym q) };
      matching_ports_is_in_use_once = record { fixed = λ k a r r' e e' p q. p ∙ sym q };
      matching_ports_is_port_free_once = record { fixed = λ k a r r' e e' p q. p ∙ sym q };
      matching_ports_autobind_once = record { fixed = λ k a r r' e e' p q. p ∙ sym q };
      matching_routes_source_once = record { fixed = λ k a r r' e e' p q. p ∙ sym q };
      matching_scoring_score_once = record { fixed = λ k a r r' e e' p q. p ∙ sym q };
      matching_scoring_winner_once = record { fixed = λ k a r r' e e' p q. p ∙ sym q };
      binding_new_socket_once = record { fixed = λ k a r r' e e' p q. p ∙ sym q };
      binding_no_socket_once = record { fixed = λ k a r r' e e' p q. p ∙ sym q };
      binding_lowest_closed_once = record { fixed = λ k a r r' e e' p q. p.0 ∙ sym q.0 };
      binding_with_local_once = record { fixed = λ k a r r' e e' p q. p ∙ sym q };
      binding_with_remote_once = record { fixed = λ k a r r' e e' p q. p ∙ sym q };
      binding_with_error_once = record { fixed = λ k a r r' e e' p q. p ∙ sym q };
      binding_with_options_once = record { fixed = λ k a r r' e e' p q. p ∙ sym q };
      binding_port_for_once = record { fixed = λ k a r r' e e' p q. p ∙ sym q };
      queues_are_queues_once = record { fixed = λ k a r r' e e' p q. p ∙ sym q };
      queues_empty_once = record { fixed = λ k a r r' e e' p q. p ∙ sym q };
      queues_push_once = record { fixed = λ k a r r' e e' p q. p ∙ sym q };
      queues_take_once = record { fixed = λ k a r r' e e' p q. p ∙ sym q };
      queues_clear_once = record { fixed = λ k a r r' e e' p q. p ∙ sym q };
      queues_clear_all_once = record { fixed = λ k a r r' e e' p q. p ∙ sym q };
      outqueue_source_once = record { fixed = λ k a r r' e e' p q. p ∙ sym q };
      outqueue_destination_once = record { fixed = λ k a r r' e e' p q. p ∙ sym q };
      outqueue_are_items_once = record { fixed = λ k a r r' e e' p q. p ∙ sym q };
      outqueue_empty_once = record { fixed = λ k a r r' e e' p q. p ∙ sym q };
      outqueue_add_once = record { fixed = λ k a r r' e e' p q. p ∙ sym q };
      outqueue_add_notice_once = record { fixed = λ k a r r' e e' p q. p ∙ sym q };
      outqueue_remove_once = record { fixed = λ k a r r' e e' p q. p ∙ sym q };
      delivery_arrive_once = record { fixed = λ k a r r' e e' p q. p ∙ sym q };
      delivery_loop_back_once = record { fixed = λ k a r r' e e' p q. p ∙ sym q };
      delivery_hear_once = record { fixed = λ k a r r' e e' p q. same_hearing r r' (p ∙ sym q) };
      host_well_formed_once = record { fixed = λ k a r r' e e' p q. p ∙ sym q };
      host_ready_once = record { fixed = λ k a r r' e e' p q. refused_once r r' (p ∙ sym q) };
      host_datagram_once = record { fixed = λ k a r r' e e' p q. p ∙ sym q };
      host_notice_once = record { fixed = λ k a r r' e e' p q. p ∙ sym q };
      host_close_once = record { fixed = λ k a r r' e e' p q. p ∙ sym q };
      host_exit_once = record { fixed = λ k a r r' e e' p q. p ∙ sym q };
      host_out_step_once = record { fixed = λ k a r r' e e' p q. p ∙ sym q };
      host_socket_once = record { fixed = λ k a r r' e e' p q. p ∙ sym q };
      host_bind_once = record { fixed = λ k a r r' e e' p q. p ∙ sym q };
      host_connect_once = record { fixed = λ k a r r' e e' p q. p ∙ sym q };
      host_disconnect_once = record { fixed = λ k a r r' e e' p q. p ∙ sym q };
      host_getsockname_once = record { fixed = λ k a r r' e e' p q. p ∙ sym q };
      host_getpeername_once = record { fixed = λ k a r r' e e' p q. p ∙ sym q };
      host_opening_once = record { fixed = λ k a r r' e e' p q. p ∙ sym q };
      host_geterr_once = record { fixed = λ k a r r' e e' p q. p ∙ sym q };
      host_getopt_once = record { fixed = λ k a r r' e e' p q. p ∙ sym q };
      host_setopt_once = record { fixed = λ k a r r' e e' p q. p ∙ sym q };
      host_poll_once = record { fixed = λ k a r r' e e' p q. p ∙ sym q };
      host_recvfrom_once = record { fixed = λ k a r r' e e' p q. p ∙ sym q };
      host_resume_once = record { fixed = λ k a r r' e e' p q. p ∙ sym q };
      host_interrupt_once = record { fixed = λ k a r r' e e' p q. p ∙ sym q };
      host_sendto_once = record { fixed = λ k a r r' e e' p q. p ∙ sym q };
    }

-- ---- what equal views say

pub outcome_tells : {r r' : Stepped} {s s' b b' : List ℕ} → outcome r s b ≡ outcome r' s' b' → (r ≡ r') × (s ≡ s') × (b ≡ b')
outcome_tells {r} {r'} e = (ap (λ (o : Outcome). record { host = o.host; answer = o.answer }) e, ap (λ (o : Outcome). o.bytes) e, ap (λ (o : Outcome). o.lent) e)

pub landed_tells : {l m : Landing} {s t : List ℕ} → landed l s ≡ landed m t → (l ≡ m) × (s ≡ t)
landed_tells {l} {m} {s} {t} e = same_landing l m s t e
