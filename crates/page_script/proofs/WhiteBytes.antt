-- Which bytes are white space past ASCII, and which begin it: those that are neither.
use Rattle.std.proofs.Common.{◌≡◌, ◌≢◌, ℕ, zero, suc, ◌+◌, ◌-◌, ◌<◌, ◌≤◌, ◌⊎◌, inl, inr, Bool, ◌&&◌, true, false, List, [], ◌∷◌, nat_eq, refl, sym, subst, arith}
use Rattle.std.proofs.lemmas.Bool.{cases_order, ne_eqb}
use Rattle.js_lexer.specs.WhiteSpace.{past_ascii, IsOther, BeginsWhite, IsSpace, IsSeparator}

differ : (k b : ℕ) → b ≢ k → nat_eq k b ≡ false
differ k b h = ne_eqb k b (λ e. h (sym e))

differ-too : (k b : ℕ) → b ≢ k → nat_eq b k ≡ false
differ-too k b h = ne_eqb b k h

apart : (b k : ℕ) → (b < 128) ⊎ (138 < b) → 128 ≤ k → k ≤ 138 → b ≡ k → ⊥
apart b k (inl h) i j e = omega (arith, h, i, e)
apart b k (inr h) i j e = omega (arith, h, j, e)

pub other-first : (b : ℕ) (bs : List ℕ) → b ≢ 0xC2 → b ≢ 0xE1 → b ≢ 0xE2 → b ≢ 0xE3 → b ≢ 0xEF → past_ascii (b ∷ bs) ≡ IsOther
unfolding lib.Utf8.encode
other-first b bs i j k l m = rw (differ 0xC2 b i, differ 0xE1 b j, differ 0xE2 b k, differ 0xE3 b l, differ 0xEF b m, differ-too 0xC2 b i, differ-too 0xE1 b j, differ-too 0xE2 b k, differ-too 0xE3 b l, differ-too 0xEF b m) refl

pub other-behind-c2 : (b : ℕ) (bs : List ℕ) → b ≢ 0xA0 → past_ascii (0xC2 ∷ b ∷ bs) ≡ IsOther
unfolding lib.Utf8.encode
other-behind-c2 b bs h = rw (differ 0xA0 b h, differ-too 0xA0 b h) refl

pub other-behind-e1 : (b : ℕ) (bs : List ℕ) → b ≢ 0x9A → past_ascii (0xE1 ∷ b ∷ bs) ≡ IsOther
unfolding lib.Utf8.encode
other-behind-e1 b bs h = rw (differ 0x9A b h, differ-too 0x9A b h) refl

pub other-behind-e2 : (b : ℕ) (bs : List ℕ) → b ≢ 0x80 → b ≢ 0x81 → past_ascii (0xE2 ∷ b ∷ bs) ≡ IsOther
unfolding lib.Utf8.encode
other-behind-e2 b bs h i = rw (differ 0x80 b h, differ 0x81 b i, differ-too 0x80 b h, differ-too 0x81 b i) refl

pub other-behind-e3 : (b : ℕ) (bs : List ℕ) → b ≢ 0x80 → past_ascii (0xE3 ∷ b ∷ bs) ≡ IsOther
unfolding lib.Utf8.encode
other-behind-e3 b bs h = rw (differ 0x80 b h, differ-too 0x80 b h) refl

pub other-behind-ef : (b : ℕ) (bs : List ℕ) → b ≢ 0xBB → past_ascii (0xEF ∷ b ∷ bs) ≡ IsOther
unfolding lib.Utf8.encode
other-behind-ef b bs h = rw (differ 0xBB b h, differ-too 0xBB b h) refl

pub other-behind-e1-9a : (b : ℕ) → b ≢ 0x80 → past_ascii (0xE1 ∷ 0x9A ∷ b ∷ []) ≡ IsOther
unfolding lib.Utf8.encode
other-behind-e1-9a b h = rw (differ 0x80 b h, differ-too 0x80 b h) refl

pub white-e1-9a : past_ascii (0xE1 ∷ 0x9A ∷ 0x80 ∷ []) ≡ IsSpace
unfolding lib.Utf8.encode
white-e1-9a = refl

pub other-behind-e2-81 : (b : ℕ) → b ≢ 0x9F → past_ascii (0xE2 ∷ 0x81 ∷ b ∷ []) ≡ IsOther
unfolding lib.Utf8.encode
other-behind-e2-81 b h = rw (differ 0x9F b h, differ-too 0x9F b h) refl

pub white-e2-81 : past_ascii (0xE2 ∷ 0x81 ∷ 0x9F ∷ []) ≡ IsSpace
unfolding lib.Utf8.encode
white-e2-81 = refl

pub other-behind-e3-80 : (b : ℕ) → b ≢ 0x80 → past_ascii (0xE3 ∷ 0x80 ∷ b ∷ []) ≡ IsOther
unfolding lib.Utf8.encode
other-behind-e3-80 b h = rw (differ 0x80 b h, differ-too 0x80 b h) refl

pub white-e3-80 : past_ascii (0xE3 ∷ 0x80 ∷ 0x80 ∷ []) ≡ IsSpace
unfolding lib.Utf8.encode
white-e3-80 = refl

pub other-behind-ef-bb : (b : ℕ) → b ≢ 0xBF → past_ascii (0xEF ∷ 0xBB ∷ b ∷ []) ≡ IsOther
unfolding lib.Utf8.encode
other-behind-ef-bb b h = rw (differ 0xBF b h, differ-too 0xBF b h) refl

pub white-ef-bb : past_ascii (0xEF ∷ 0xBB ∷ 0xBF ∷ []) ≡ IsSpace
unfolding lib.Utf8.encode
white-ef-bb = refl

pub begins-c2 : past_ascii (0xC2 ∷ []) ≡ BeginsWhite
unfolding lib.Utf8.encode
begins-c2 = refl

pub begins-e1 : past_ascii (0xE1 ∷ []) ≡ BeginsWhite
unfolding lib.Utf8.encode
begins-e1 = refl

pub begins-e2 : past_ascii (0xE2 ∷ []) ≡ BeginsWhite
unfolding lib.Utf8.encode
begins-e2 = refl

pub begins-e3 : past_ascii (0xE3 ∷ []) ≡ BeginsWhite
unfolding lib.Utf8.encode
begins-e3 = refl

pub begins-ef : past_ascii (0xEF ∷ []) ≡ BeginsWhite
unfolding lib.Utf8.encode
begins-ef = refl

pub begins-c2-a0 : past_ascii (0xC2 ∷ 0xA0 ∷ []) ≡ IsSpace
unfolding lib.Utf8.encode
begins-c2-a0 = refl

pub begins-two-e1 : past_ascii (0xE1 ∷ 0x9A ∷ []) ≡ BeginsWhite
unfolding lib.Utf8.encode
begins-two-e1 = refl

pub begins-two-e2 : past_ascii (0xE2 ∷ 0x80 ∷ []) ≡ BeginsWhite
unfolding lib.Utf8.encode
begins-two-e2 = refl

pub begins-two-e2-81 : past_ascii (0xE2 ∷ 0x81 ∷ []) ≡ BeginsWhite
unfolding lib.Utf8.encode
begins-two-e2-81 = refl

pub begins-two-e3 : past_ascii (0xE3 ∷ 0x80 ∷ []) ≡ BeginsWhite
unfolding lib.Utf8.encode
begins-two-e3 = refl

pub begins-two-ef : past_ascii (0xEF ∷ 0xBB ∷ []) ≡ BeginsWhite
unfolding lib.Utf8.encode
begins-two-ef = refl

pub separator-a8 : past_ascii (0xE2 ∷ 0x80 ∷ 0xA8 ∷ []) ≡ IsSeparator
unfolding lib.Utf8.encode
separator-a8 = refl

pub separator-a9 : past_ascii (0xE2 ∷ 0x80 ∷ 0xA9 ∷ []) ≡ IsSeparator
unfolding lib.Utf8.encode
separator-a9 = refl

pub space-af : past_ascii (0xE2 ∷ 0x80 ∷ 0xAF ∷ []) ≡ IsSpace
unfolding lib.Utf8.encode
space-af = refl

space-by : (n : ℕ) → n ≤ 10 → past_ascii (0xE2 ∷ 0x80 ∷ (128 + n) ∷ []) ≡ IsSpace
unfolding lib.Utf8.encode
space-by zero h = refl
space-by (suc zero) h = refl
space-by (suc (suc zero)) h = refl
space-by (suc (suc (suc zero))) h = refl
space-by (suc (suc (suc (suc zero)))) h = refl
space-by (suc (suc (suc (suc (suc zero))))) h = refl
space-by (suc (suc (suc (suc (suc (suc zero)))))) h = refl
space-by (suc (suc (suc (suc (suc (suc (suc zero))))))) h = refl
space-by (suc (suc (suc (suc (suc (suc (suc (suc zero)))))))) h = refl
space-by (suc (suc (suc (suc (suc (suc (suc (suc (suc zero))))))))) h = refl
space-by (suc (suc (suc (suc (suc (suc (suc (suc (suc (suc zero)))))))))) h = refl
space-by (suc (suc (suc (suc (suc (suc (suc (suc (suc (suc (suc n))))))))))) h = absurd (omega (arith, h))

pub space-among : (b : ℕ) → 128 ≤ b → b ≤ 138 → past_ascii (0xE2 ∷ 0x80 ∷ b ∷ []) ≡ IsSpace
space-among b h i = let e : 128 + (b - 128) ≡ b = omega (arith, h) in subst (λ (k : ℕ). past_ascii (0xE2 ∷ 0x80 ∷ k ∷ []) ≡ IsSpace) e (space-by (b - 128) (omega (arith, h, i)))

pub other-punctuation : (b : ℕ) → (b < 128) ⊎ (138 < b) → b ≢ 0xA8 → b ≢ 0xA9 → b ≢ 0xAF → past_ascii (0xE2 ∷ 0x80 ∷ b ∷ []) ≡ IsOther
unfolding lib.Utf8.encode
other-punctuation b h i j k = rw (differ 0x80 b (apart b 0x80 h (omega arith) (omega arith)), differ 0x81 b (apart b 0x81 h (omega arith) (omega arith)), differ 0x82 b (apart b 0x82 h (omega arith) (omega arith)), differ 0x83 b (apart b 0x83 h (omega arith) (omega arith)), differ 0x84 b (apart b 0x84 h (omega arith) (omega arith)), differ 0x85 b (apart b 0x85 h (omega arith) (omega arith)), differ 0x86 b (apart b 0x86 h (omega arith) (omega arith)), differ 0x87 b (apart b 0x87 h (omega arith) (omega arith)), differ 0x88 b (apart b 0x88 h (omega arith) (omega arith)), differ 0x89 b (apart b 0x89 h (omega arith) (omega arith)), differ 0x8A b (apart b 0x8A h (omega arith) (omega arith)), differ 0xA8 b i, differ 0xA9 b j, differ 0xAF b k) (rw (differ-too 0x80 b (apart b 0x80 h (omega arith) (omega arith)), differ-too 0x81 b (apart b 0x81 h (omega arith) (omega arith)), differ-too 0x82 b (apart b 0x82 h (omega arith) (omega arith)), differ-too 0x83 b (apart b 0x83 h (omega arith) (omega arith)), differ-too 0x84 b (apart b 0x84 h (omega arith) (omega arith)), differ-too 0x85 b (apart b 0x85 h (omega arith) (omega arith)), differ-too 0x86 b (apart b 0x86 h (omega arith) (omega arith)), differ-too 0x87 b (apart b 0x87 h (omega arith) (omega arith)), differ-too 0x88 b (apart b 0x88 h (omega arith) (omega arith)), differ-too 0x89 b (apart b 0x89 h (omega arith) (omega arith)), differ-too 0x8A b (apart b 0x8A h (omega arith) (omega arith)), differ-too 0xA8 b i, differ-too 0xA9 b j, differ-too 0xAF b k) refl)

unlike : (b k : ℕ) → (b < k) ⊎ (k < b) → b ≢ k
unlike b k (inl h) e = omega (arith, h, e)
unlike b k (inr h) e = omega (arith, h, e)

and-false : (x : Bool) → (x && false) ≡ false
and-false true = refl
and-false false = refl

pub other-three-c2 : (b c : ℕ) → past_ascii (0xC2 ∷ b ∷ c ∷ []) ≡ IsOther
unfolding lib.Utf8.encode
other-three-c2 b c = grind (arith, and-false)

-- of three bytes none begins with the first of the two
pub other-three : (b c d : ℕ) → b ≢ 0xE1 → b ≢ 0xE2 → b ≢ 0xE3 → b ≢ 0xEF → past_ascii (b ∷ c ∷ d ∷ []) ≡ IsOther
other-three b c d i j k l = elim (cases_order b 0xC2) [
  | inl e ↦ rw e (other-three-c2 c d)
  | inr o ↦ other-first b (c ∷ d ∷ []) (unlike b 0xC2 o) i j k l
]

pub ruleset white_rules = (other-three-c2, other-first, other-behind-c2, other-behind-e1, other-behind-e2, other-behind-e3, other-behind-ef, other-behind-e1-9a, white-e1-9a, other-behind-e2-81, white-e2-81, other-behind-e3-80, white-e3-80, other-behind-ef-bb, white-ef-bb, begins-c2, begins-e1, begins-e2, begins-e3, begins-ef, begins-c2-a0, begins-two-e1, begins-two-e2, begins-two-e2-81, begins-two-e3, begins-two-ef, separator-a8, separator-a9, space-af, space-among, other-punctuation)
