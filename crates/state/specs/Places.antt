-- Nothing there: the records of zeros, and the places of each array
use Rattle.std.specs.Prelude.{ℕ, List, false, get_or}
use Rattle.net.specs.Address.{no_flow}
use Rattle.state.specs.declared.Interface.{Interface}
use Rattle.state.specs.declared.Socket.{Socket}
use Rattle.state.specs.declared.Queued.{Queued}
use Rattle.state.specs.declared.OutItem.{OutItem}

abbrev pub no_interface : Interface
no_interface = record { mask = 0; first = 0; second = 0; third = 0; fourth = 0; id = record { 0 = 0 } }

abbrev pub no_socket : Socket
no_socket =
    record {
      laddr = 0;
      raddr = 0;
      lport = record { 0 = 0 };
      rport = record { 0 = 0 };
      live = false;
      error = 0;
      bsdcompat = false;
      reuse = false;
    }

abbrev pub no_head : Queued
no_head = record { flow = no_flow; len = 0; iface = record { 0 = 0 } }

abbrev pub no_item : OutItem
no_item = record { flow = no_flow; len = 0; kind = 0 }

-- what stands at a place; nothing where there is no such place
abbrev pub interface_in : List Interface → ℕ → Interface
interface_in is i = get_or is i no_interface

abbrev pub socket_in : List Socket → ℕ → Socket
socket_in ks k = get_or ks k no_socket

abbrev pub head_in : List Queued → ℕ → Queued
head_in hs j = get_or hs j no_head

abbrev pub item_in : List OutItem → ℕ → OutItem
item_in xs i = get_or xs i no_item
