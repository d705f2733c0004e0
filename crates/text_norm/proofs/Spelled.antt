-- The bytes of classes.
use Rattle.std.proofs.Common.{◌≡◌, ℕ, ◌<◌, ◌≤◌, ◌==◌, Bool, true, List, refl, sym, ◌∙◌, inl, inr, ◌⊎◌}
use Rattle.std.specs.Char.{is_ascii_alphabetic}
use Rattle.std.specs.List.{list_all}
use Rattle.std.proofs.lemmas.Bool.{cases_lt, eqb-true, agree_below, agree_below_at}
use Rattle.place_core.specs.page.Classes.{Class, White, ExclamationMark, QuotationMark, NumberSign, Ampersand, Apostrophe, HyphenMinus, Solidus, Digit, Semicolon, LessThan, EqualsSign, GreaterThan, QuestionMark, GraveAccent, Letter, OtherByte, class_of}
use Rattle.place_core.specs.declared.element.Element.TheVariants as element
use Rattle.place_core.proofs.Bytes.{class-high}
use Rattle.html_scan.specs.ScanViews.{scan_at}
use Rattle.html_scan.specs.declared.scan.Scan.{Scan as ReadScan}
use Rattle.html_scan.specs.declared.scan.Scan.TheVariants as scan
use Rattle.text_norm.specs.Kept.{end_letters}
use Rattle.text_norm.proofs.ByteLaws.{IsRead, Spelled}

not_other : OtherByte ≡ GreaterThan → ⊥
not_other h = cc

abbrev is_spelled : Class → ℕ → Bool
is_spelled Ampersand b = b == 38
is_spelled LessThan b = b == 60
is_spelled Solidus b = b == 47
is_spelled ExclamationMark b = b == 33
is_spelled (Letter l) b = is_ascii_alphabetic b
is_spelled c b = true

low : agree_below (λ b. is_spelled (class_of b) b) (λ b. true) 128 ≡ true
unfolding class_of
low = refl

by_size : (b : ℕ) → (b < 128) ⊎ (128 ≤ b) → is_spelled (class_of b) b ≡ true
by_size b (inl h) = agree_below_at (λ b. is_spelled (class_of b) b) (λ b. true) 128 b low h
by_size b (inr h) = rw (class-high b h) refl

all_spelled : (b : ℕ) → is_spelled (class_of b) b ≡ true
all_spelled b = by_size b (cases_lt b 128)

by_test : (c : Class) (b : ℕ) → is_spelled c b ≡ true → Spelled c b
by_test White b h = refl
by_test ExclamationMark b h = eqb-true b 33 h
by_test QuotationMark b h = refl
by_test NumberSign b h = refl
by_test Ampersand b h = eqb-true b 38 h
by_test Apostrophe b h = refl
by_test HyphenMinus b h = refl
by_test Solidus b h = eqb-true b 47 h
by_test Digit b h = refl
by_test Semicolon b h = refl
by_test LessThan b h = eqb-true b 60 h
by_test EqualsSign b h = refl
by_test GreaterThan b h = refl
by_test QuestionMark b h = refl
by_test GraveAccent b h = refl
by_test (Letter l) b h = h
by_test OtherByte b h = refl

pub spelled : (b : ℕ) → Spelled (class_of b) b
spelled b = by_test (class_of b) b (all_spelled b)

below : (b : ℕ) → class_of b ≡ GreaterThan → (b < 128) ⊎ (128 ≤ b) → b < 128
below b h (inl small) = small
below b h (inr large) = absurd (not_other (sym (class-high b large) ∙ h))

pub greater_ascii : (b : ℕ) → class_of b ≡ GreaterThan → b < 128
greater_ascii b h = below b h (cases_lt b 128)

pub is_read : (text : List ℕ) (k : ℕ) (f : ReadScan) → list_all is_ascii_alphabetic (end_letters (scan_at text k f)) ≡ true → IsRead (scan_at text k f)
is_read text k (scan.At p) a = refl
is_read text k scan.AfterLess a = refl
is_read text k scan.AfterLessSolidus a = refl
is_read text k (scan.InDeclaration from) a = refl
is_read text k (scan.InTagName ends from) a = refl
is_read text k (scan.InAttributeName t typed from) a = refl
is_read text k (scan.InCommentEnd s) a = refl
is_read text k (scan.InUrl v t r) a = refl
is_read text k (scan.InStyle v s r) a = refl
is_read text k (scan.InScript v n r) a = refl
is_read text k (scan.InScriptElement n h) a = refl
is_read text k (scan.AfterContentLess element.DataBlock) a = refl
is_read text k (scan.AfterContentLess e) a = refl
is_read text k (scan.InContentName element.DataBlock from) a = refl
is_read text k (scan.InContentName e from) a = refl
is_read text k scan.AfterBlockBang a = refl
is_read text k scan.AfterBlockBangDash a = refl
is_read text k (scan.InStyleElement s) a = tt
is_read text k (scan.AfterStyleLess s) a = tt
is_read text k (scan.InStyleName s from) a = a
is_read text k (scan.BeforeType t) a = refl
is_read text k (scan.InType t q from) a = refl
