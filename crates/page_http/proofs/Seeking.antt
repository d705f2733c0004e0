-- Where the router's walk over its rows leads, by the bytes of the path.
use Rattle.std.proofs.Common.{ℕ, zero, suc, ◌+◌, ◌-◌, ◌<◌, ◌≡◌, Bool, true, false, cond, ◌==◌, ◌&&◌, nat_lt, List, [], ◌∷◌, length, Option, Some, None, arith, refl, ap, sym, ◌∙◌}
use Rattle.std.proofs.lemmas.Bool.Decides.{nat_tests}
use Rattle.std.specs.List.{list_all}
use Rattle.std.specs.Str.{bytes_eq}
use Rattle.matchit.specs.Rows.{RowsOf}
use Rattle.matchit.specs.Seek.{own, step, or_else, param_step, seek, has_slash}

pub either : {P : Type 0} (b : Bool) → (b ≡ true → P) → (b ≡ false → P) → P
either true f g = f refl
either false f g = g refl

both_true : (a b : Bool) → (a && b) ≡ true → (a ≡ true) × (b ≡ true)
both_true true b e = (refl, e)
both_true false b e = cc

module _ {K : Type 0} where
  or_none : (x : Option K) → or_else x None ≡ x
  or_none None = refl
  or_none (Some k) = refl

  nothing_after : (path : List ℕ) → (param_step {K = K} [] path).1 ≡ []
  unfolding param_step
  nothing_after path = by_slash (has_slash path)
    where
      by_slash : (b : Bool) → (cond {A = ℕ × RowsOf K} b (0, []) (length path, [])).1 ≡ []
      by_slash true = refl
      by_slash false = refl

  -- without rows nothing is found
  pub seek_none : (skip : ℕ) (path : List ℕ) → seek {K = K} skip [] path ≡ None
  unfolding seek
  seek_none skip [] = refl
  seek_none (suc skip) (b ∷ path) = seek_none skip path
  seek_none zero (b ∷ path) =
      let n = (param_step {K = K} [] (b ∷ path)).0 - 1 in
      rw (seek_none 0 path, nothing_after (b ∷ path), seek_none n path) refl

  -- where no row goes on with a parameter, the byte leads on
  pub seek_byte : (rows : RowsOf K) (b : ℕ) (path : List ℕ) → step 256 rows ≡ [] → step 257 rows ≡ []
      → seek 0 rows (b ∷ path) ≡ seek 0 (step b rows) path
  unfolding seek
  seek_byte rows b path p c =
      let n = (param_step {K = K} [] (b ∷ path)).0 - 1 in
      rw (p, c, nothing_after (b ∷ path), seek_none n path, or_none (seek 0 (step b rows) path)) refl

  -- a walk that skips the rest of the path ends where it is
  pub seek_end : (rows : RowsOf K) (path : List ℕ) → seek (length path) rows path ≡ own rows
  unfolding seek
  seek_end rows [] = refl
  seek_end rows (b ∷ path) = seek_end rows path

  -- the row of a text without parameters is found by that text alone
  pub seek_text : (w : List ℕ) (k : K) (path : List ℕ) → list_all (λ x. nat_lt x 256) w ≡ true
      → seek 0 ((w, k) ∷ []) path ≡ cond (bytes_eq w path) (Some k) None
  unfolding seek
  seek_text [] k [] plain = refl
  seek_text [] k (b ∷ path) plain = seek_byte (([], k) ∷ []) b path refl refl ∙ seek_none 0 path
  seek_text (x ∷ w) k [] plain = refl
  seek_text (x ∷ w) k (b ∷ path) plain =
      let both = both_true (nat_lt x 256) (list_all (λ x. nat_lt x 256) w) plain in
      let p : (x == 256) ≡ false = grind (arith, nat_tests, both.0) in
      let c : (x == 257) ≡ false = grind (arith, nat_tests, both.0) in
      let on = seek_byte ((x ∷ w, k) ∷ []) b path (ap (λ (z : Bool). cond z ((w, k) ∷ []) []) p) (ap (λ (z : Bool). cond z ((w, k) ∷ []) []) c) in
      on ∙ either (x == b)
      (λ t. rw (t) (seek_text w k path both.1))
      (λ f. rw (f) (seek_none 0 path))

  -- a parameter takes a segment, which has a byte
  pub seek_name : (k : K) (b : ℕ) (path : List ℕ) → b < 256
      → seek 0 ((256 ∷ [], k) ∷ []) (b ∷ path) ≡ cond (has_slash (b ∷ path)) None (Some k)
  unfolding seek param_step
  seek_name k b path byte =
      let no : (256 == b) ≡ false = grind (arith, nat_tests, byte) in
      rw (no, seek_none 0 path) (either (has_slash (b ∷ path))
      (λ t. rw (t, seek_none 0 path) refl)
      (λ f. let e : suc (length path) - 1 ≡ length path = omega arith in rw (f, e, seek_end (([], k) ∷ []) path) refl))
