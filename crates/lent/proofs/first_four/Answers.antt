use Rattle.std.proofs.Common.{rules, ◌≡◌, [], ◌∷◌, length, arith, List, slice_index_or}
use Rattle.state.specs.declared.Interface.{Interface}
use Rattle.state.specs.Places.{no_interface}
use Rattle.lent.proofs.first_four.Goals as goal

four_places : (ys : List Interface) (z : Interface) {a b c d : Interface} → length ys ≡ 4 → slice_index_or ys 0 z ≡ a → slice_index_or ys 1 z ≡ b → slice_index_or ys 2 z ≡ c → slice_index_or ys 3 z ≡ d → ys ≡ a ∷ b ∷ c ∷ d ∷ []
four_places [] z l p q r s = absurd (omega arith)
four_places (w ∷ []) z l p q r s = absurd (omega arith)
four_places (w ∷ x ∷ []) z l p q r s = absurd (omega arith)
four_places (w ∷ x ∷ y ∷ []) z l p q r s = absurd (omega arith)
four_places (w ∷ x ∷ y ∷ v ∷ []) z l p q r s = cc
four_places (w ∷ x ∷ y ∷ v ∷ u ∷ ys) z l p q r s = absurd (omega arith)

pub returns : goal.returns
returns c = four_places c.from_fn.result no_interface c.from_fn.ensures.items.long (search rules) (search rules) (search rules) (search rules)
