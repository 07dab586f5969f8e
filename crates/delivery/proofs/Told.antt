-- Document 01's number and descriptor say which case of the code's types it is.
-- Assumes nothing.
use mathlib.Core.Path.{◌≡◌, refl, sym, ap, ◌∙◌}
use mathlib.Core.List.{List}
use mathlib.Core.Bool.{cond}
use Prim.Native.Nat.{ℕ}
use lib.Dec.{eqb}
use Rattle.delivery.specs.declared.Fate.{Fate}
use Rattle.delivery.specs.declared.Fate.TheVariants.{Delivered, Dropped, NoticeQueued, NoticeNotQueued}
use Rattle.delivery.specs.declared.Hearing.{Hearing}
use Rattle.delivery.specs.declared.Hearing.TheVariants.{Heard, NotTold, Nobody}
use Rattle.delivery.specs.declared.Landing.{Landing}
use Rattle.delivery.specs.Fate.{fate_number, fate_at}
use Rattle.delivery.specs.Landing.{Landed, landed}
use Rattle.delivery.specs.Hearing.{Sought, heard_as}

-- ---- back from them

fate_of : ℕ → ℕ → Fate
fate_of n k = cond (eqb n 20) (Delivered (record { 0 = k })) (cond (eqb n 21) (Dropped (record { 0 = k })) (cond (eqb n 22) NoticeQueued NoticeNotQueued))

fate_back : (f : Fate) → fate_of (fate_number f) (fate_at f) ≡ f
unfolding fate_of
fate_back (Delivered d) = refl
fate_back (Dropped d) = refl
fate_back NoticeQueued = refl
fate_back NoticeNotQueued = refl

hearing_of : Sought → Hearing
hearing_of s = cond (eqb s.number 27) (Heard (record { 0 = s.at })) (cond (eqb s.number 28) (NotTold (record { 0 = s.at })) Nobody)

hearing_back : (h : Hearing) → hearing_of (heard_as h) ≡ h
unfolding hearing_of
hearing_back (Heard d) = refl
hearing_back (NotTold d) = refl
hearing_back Nobody = refl

-- ---- what is told alike is the same

pub same_hearing : (g h : Hearing) → heard_as g ≡ heard_as h → g ≡ h
same_hearing g h e = sym (hearing_back g) ∙ ap hearing_of e ∙ hearing_back h

landing_back : (l : Landing) (s : List ℕ) → record { queues = (landed l s).queues; out = (landed l s).out; fate = fate_of (landed l s).number (landed l s).at } ≡ l
landing_back l s = ap (λ (f : Fate). record { queues = l.queues; out = l.out; fate = f }) (fate_back l.fate)

pub same_landing : (l m : Landing) (s t : List ℕ) → landed l s ≡ landed m t → (l ≡ m) × (s ≡ t)
same_landing l m s t e =
    let back : Landed → Landing = λ (v : Landed). record { queues = v.queues; out = v.out; fate = fate_of v.number v.at } in
    (sym (landing_back l s) ∙ ap back e ∙ landing_back m t, ap (λ (v : Landed). v.bytes) e)
