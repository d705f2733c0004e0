-- How a string between backquotes is copied without its carriage returns.
use Rattle.std.proofs.Common.{◌≡◌, ℕ, ◌+◌, ◌-◌, ◌<◌, false, List, [], ◌∷◌, ◌++◌, take, drop, refl, sym, ap, ◌∙◌, arith, append_assoc}
use Rattle.std.proofs.lemmas.Bool.Decides.{nat_tests}
use Rattle.std.proofs.lemmas.List.{drop-drop}
use Rattle.std.specs.List.{prefix_len}
use Rattle.tpl_token.specs.Characters.{first_is}
use Rattle.tpl_token.specs.Strings.{is_kept_plain}
use Rattle.tpl_token.specs.Scanning.{without_returns}
use Rattle.tpl_token.proofs.Marks.{either, one_more}

pub kept_ascii : (b : ℕ) → is_kept_plain b ≡ false → b < 128
kept_ascii b e = grind (arith, nat_tests)

run_stays : (bs : List ℕ) → without_returns bs ≡ take (prefix_len is_kept_plain bs) bs ++ without_returns (drop (prefix_len is_kept_plain bs) bs)
run_stays [] = refl
run_stays (b ∷ bs) = either (is_kept_plain b) (λ t. rw (t, one_more (prefix_len is_kept_plain bs)) (ap (λ (xs : List ℕ). b ∷ xs) (run_stays bs))) (λ f. let none : prefix_len is_kept_plain (b ∷ bs) ≡ 0 = rw f refl in rw none refl)

return_goes : (bs : List ℕ) → first_is is_kept_plain bs ≡ false → without_returns bs ≡ without_returns (drop 1 bs)
return_goes [] e = refl
return_goes (b ∷ bs) e = rw e refl

-- a line is copied
pub copied_run : (text old part new whole : List ℕ) (at run : ℕ) → run ≡ prefix_len is_kept_plain (drop at text) → new ≡ old ++ part → part ≡ take (at + run - at) (drop at text) → old ++ without_returns (drop at text) ≡ whole
    → new ++ without_returns (drop (at + run) text) ≡ whole
copied_run text old part new whole at run is pushed part_is h =
    let rest = drop at text in
    let same : at + run - at ≡ run = omega arith in
    let runs : without_returns rest ≡ take run rest ++ without_returns (drop run rest) = rw is (run_stays rest) in
    ap (λ (xs : List ℕ). xs ++ without_returns (drop (at + run) text)) (pushed ∙ ap (λ (xs : List ℕ). old ++ xs) (part_is ∙ ap (λ (n : ℕ). take n rest) same))
    ∙ append_assoc old (take run rest) (without_returns (drop (at + run) text))
    ∙ ap (λ (xs : List ℕ). old ++ (take run rest ++ without_returns xs)) (sym (drop-drop run at text)) ∙ ap (λ (xs : List ℕ). old ++ xs) (sym runs) ∙ h

-- a carriage return is left out
pub copied_return : (text new whole : List ℕ) (at : ℕ) → first_is is_kept_plain (drop at text) ≡ false → new ++ without_returns (drop at text) ≡ whole → new ++ without_returns (drop (at + 1) text) ≡ whole
copied_return text new whole at stops h =
    ap (λ (xs : List ℕ). new ++ without_returns xs) (sym (drop-drop 1 at text)) ∙ ap (λ (xs : List ℕ). new ++ xs) (sym (return_goes (drop at text) stops)) ∙ h
