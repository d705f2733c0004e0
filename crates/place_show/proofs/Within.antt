-- What is answered of a text is answered of an equal one.
use Rattle.std.proofs.Common.{◌≡◌, ℕ, List, Result, Err, sym, ap, ◌∙◌, subst}
use Rattle.html_step.specs.Steps.{after_text}
use Rattle.place_core.specs.declared.place.Place.{Place}
use Rattle.place_core.specs.declared.step_err.StepErr.{StepErr}
use Rattle.html_step.specs.ApartInText.{TakesByte}

pub at-text : (bytes text : List ℕ) (p : Place) (e : StepErr Place) → bytes ≡ text → Err e ≡ after_text bytes p → after_text text p ≡ Err e
at-text bytes text p e s h = ap (λ (b : List ℕ). after_text b p) (sym s) ∙ sym h

pub taken-text : (bytes text : List ℕ) (p : Place) (at : ℕ) → bytes ≡ text → TakesByte at (after_text bytes p) → TakesByte at (after_text text p)
taken-text bytes text p at s h = subst (λ (b : List ℕ). TakesByte at (after_text b p)) s h
