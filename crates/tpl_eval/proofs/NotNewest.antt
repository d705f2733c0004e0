-- What is not the newest variable of a name: an older declaration that a newer one hides; and what is not what a variable hides: nothing,
-- where an older one of its name is there.
use Rattle.std.proofs.Common.{◌≡◌, ℕ, List, [], ◌∷◌, Option, Some, None, refl}
use Rattle.page_datum.specs.Data.{Data}
use Rattle.tpl_eval.specs.Evaluating.{variable_value}
use Rattle.tpl_eval.specs.Newest.{HaveHidden, newest_at}

-- two names, and declarations of the first and then again of it, with another name between: the newest first, with the number that each hides
abbrev name : List ℕ
name = 120 ∷ []

abbrev other_name : List ℕ
other_name = 121 ∷ []

abbrev declared_twice : List (List ℕ × Option ℕ)
declared_twice = (name, Some 0) ∷ (other_name, None) ∷ (name, None) ∷ []

abbrev no_number : Option ℕ
no_number = None

abbrev zeroth : Option ℕ
zeroth = Some 0

abbrev second : Option ℕ
second = Some 2

two_is_not_zero : second ≡ zeroth → ⊥
two_is_not_zero e = cc

nothing_is_not_zero : no_number ≡ zeroth → ⊥
nothing_is_not_zero e = cc

pub newer_is_newest : newest_at name declared_twice ≡ Some 2
newer_is_newest = refl

pub older_is_not_newest : newest_at name declared_twice ≡ Some 0 → ⊥
older_is_not_newest e = two_is_not_zero e

-- the older one is not forgotten: the newer one has its number, and without it the two are not what the code may keep
pub older_is_kept : HaveHidden declared_twice
older_is_kept = (refl, (refl, (refl, tt)))

pub older_may_not_be_forgotten : HaveHidden ((name, None) ∷ (other_name, None) ∷ (name, None) ∷ []) → ⊥
older_may_not_be_forgotten h = nothing_is_not_zero h.0

-- by its name a template has the newer value, and the older one again where the newer one has gone
pub newer_value_is_seen : (new old : Data) → variable_value name ((name, new) ∷ (name, old) ∷ []) ≡ new
newer_value_is_seen new old = refl

pub older_value_is_seen_again : (old : Data) → variable_value name ((name, old) ∷ []) ≡ old
older_value_is_seen_again old = refl
