-- One result for the public functions of scripts, as `OneResult` of the histories has it for the host's and all below it.
-- Assumes nothing.
use mathlib.Core.Path.{◌≡◌, refl, sym, ap, ◌∙◌}
use mathlib.Core.Bool.{Bool}
use mathlib.Core.List.{List}
use Prim.Native.Nat.{ℕ}
use Rattle.std.specs.Prelude.{Option, Some, None, is_none, IfSome}
use Rattle.net.specs.declared.Flow.{Flow}
use Rattle.host.specs.declared.Host.{Host}
use Rattle.history.proofs.OneResult.{Fixed}
use Rattle.script.specs.declared.Fields.{Fields}
use Rattle.script.specs.declared.lines.Page.{Page}
use Rattle.script.specs.declared.playing.Memory.{Memory}
use Rattle.script.specs.Pages.{Printed}
use Rattle.script.specs.Playing.{State, At}
use Rattle.script.specs.Steps.{Making, made, made_of}
use Rattle.script.specs.Whole.{Ran, ran}
use Rattle.script.proofs.fields_at.Reads as fields_at
use Rattle.script.proofs.FlowFromFields.from.Reads as flow_from_fields
use Rattle.script.proofs.make.Reads as make
use Rattle.script.proofs.lines.Page.put.Reads as put
use Rattle.script.proofs.lines.Page.put_line.Reads as put_line
use Rattle.script.proofs.lines.Page.put_closing.Reads as put_closing
use Rattle.script.proofs.playing.play.Reads as play
use Rattle.script.proofs.whole.run.Reads as run

-- where a text ends, and the slice that it was put into
pub record Put : Type 0 where
  pub end : ℕ
  pub text : List ℕ

abbrev pub shown : Page → Put
shown p = record { end = p.at; text = p.out.now }

-- a host, where there is one, with the store, the buffer and what was printed
pub record Stand : Type 0 where
  pub host : Option Host
  pub bytes : List ℕ
  pub lent : List ℕ
  pub page : Put

abbrev pub stand : Option Host → Memory → Page → Stand
stand r m p = record { host = r; bytes = m.store; lent = m.buffer; page = shown p }

pub record OneResult : Type 0 where
  pub fields_at_once : Fixed {W = Fields} fields_at.Post (λ k a r e. r)
  pub flow_once : Fixed {W = Flow} flow_from_fields.Post (λ k a r e. r)
  pub make_once : Fixed {W = Making} make.Post (λ k a r e. made (made_of a.0 r) e.1.0.now e.1.1.1.1.0.now)
  pub put_once : Fixed {W = Put} put.Post (λ k a r e. shown e.0.now)
  pub put_line_once : Fixed {W = Put} put_line.Post (λ k a r e. shown e.0.now)
  pub put_closing_once : Fixed {W = Put} put_closing.Post (λ k a r e. shown e.0.now)
  pub play_once : Fixed {W = Stand} play.Post (λ k a r e. stand r e.1.1.1.1.0.now e.1.1.1.0.now)
  pub run_once : Fixed {W = Ran} run.Post (λ k a r e. ran r e.1.0.now)

-- ---- its proof

-- the same text was put on the same page
same_page : {p q q' : Page} {xs : List ℕ} → Printed p xs q → Printed p xs q' → shown q ≡ shown q'
same_page {p} {q} {q'} {xs} u v =
    let e : q.at ≡ q'.at = u.text.end ∙ sym v.text.end in
    let d : q.out.now ≡ q'.out.now = u.text.text ∙ sym v.text.text in
    ap (λ (x : ℕ). record { end = x; text = q.out.now }) e ∙ ap (λ (x : List ℕ). record { end = q'.at; text = x }) d

-- a host is there or not, by whether the script goes on
same_host : (r r' : Option Host) (h : Host) {e : Bool} → IfSome r (λ x. x ≡ h) → IfSome r' (λ x. x ≡ h) → is_none r ≡ e → is_none r' ≡ e → r ≡ r'
same_host (Some x) (Some y) h p q u v = ap (λ (z : Host). Some z) (p ∙ sym q)
same_host (Some x) None h p q u v = cc
same_host None (Some y) h p q u v = cc
same_host None None h p q u v = refl

same_stand : {q : State} {r r' : Option Host} {m m' : Memory} {a p p' : Page} → At q r m a p → At q r' m' a p' → stand r m p ≡ stand r' m' p'
same_stand {q} {r} {r'} {m} {m'} {a} {p} {p'} u v =
    let e : r ≡ r' = same_host r r' q.host u.host v.host u.ended v.ended in
    let d : m.store ≡ m'.store = u.store ∙ sym v.store in
    let c : m.buffer ≡ m'.buffer = u.buffer ∙ sym v.buffer in
    let b : shown p ≡ shown p' = same_page u.text v.text in
    cc

pub one_result : OneResult
one_result =
    record {
      fields_at_once = record { fixed = λ k a r r' e e' p q. p ∙ sym q };
      flow_once = record { fixed = λ k a r r' e e' p q. p ∙ sym q };
      make_once = record { fixed = λ k a r r' e e' p q. p ∙ sym q };
      put_once = record { fixed = λ k a r r' e e' p q. same_page p q };
      put_line_once = record { fixed = λ k a r r' e e' p q. same_page p q };
      put_closing_once = record { fixed = λ k a r r' e e' p q. same_page p q };
      play_once = record { fixed = λ k a r r' e e' p q. same_stand p q };
      run_once = record { fixed = λ k a r r' e e' p q. p.0 ∙ sym q.0 };
    }
