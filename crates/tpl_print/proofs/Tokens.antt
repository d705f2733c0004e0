-- What is printed of each token is that token.
use Rattle.std.proofs.Common.{◌≡◌, ℕ, zero, suc, ◌<◌, ◌^◌, ◌⊎◌, inl, inr, true, false, List, [], ◌∷◌, ◌++◌, length, get_or, Some, nat_eq, nat_lt, nat_le, ℤ, pos, negsuc, codes, refl, sym, ap, ◌∙◌, arith, true≢false}
use Rattle.std.proofs.lemmas.Bool.Decides.{nat_tests}
use Rattle.std.proofs.lemmas.Fmt.{decimal_is_IsNumeral, decimal_digit, first_decimal}
use Rattle.std.specs.Char.{is_digit, digit_value, encode_utf8}
use Rattle.std.specs.Fmt.{decimal, signed_decimal}
use Rattle.std.specs.List.{list_all}
use Rattle.std.specs.Str.Parse.{AllDigits, digits_value}
use Rattle.tpl_print.proofs.Pieces.{IsToken, meaning}
use Rattle.tpl_print.proofs.Sound.{IsSmall}
use Rattle.tpl_symbol.specs.Names.{function_name}
use Rattle.tpl_print.specs.Replaced.{print_escaped}
use Rattle.tpl_symbol.proofs.FunctionNames.{reads_back}
use Rattle.tpl_symbol.specs.declared.func.Func.{Func}
use Rattle.tpl_symbol.specs.declared.func.Func.TheVariants as func
use Rattle.tpl_symbol.specs.declared.symbol.SymbolKind.TheVariants as symbol
use Rattle.tpl_token.proofs.Digits.{numeral_some}
use Rattle.tpl_token.proofs.Marks.{either, tells, begins-is, heads}
use Rattle.tpl_token.specs.Characters.{begins, first_is, is_name_byte, is_sign, is_word_byte, is_word_start}
use Rattle.tpl_token.specs.Numbers.{number, magnitude, signed}
use Rattle.tpl_token.specs.Strings.{StringPart, plain, escape, spelling, StandFor, is_plain_byte}
use Rattle.tpl_token.specs.declared.token.TokenKind.TheVariants as kind

pub name_token : (bytes : List ℕ) → is_name_byte bytes ≡ true → IsToken kind.Name bytes
name_token bytes is rest ends number = (is, ends)

pub field_token : (n : List ℕ) → is_name_byte n ≡ true → IsToken kind.Field (46 ∷ n)
field_token n is rest ends number = (n, refl, is, ends)

no_start : (rest : List ℕ) → first_is is_word_byte rest ≡ false → first_is is_word_start rest ≡ false
no_start [] ends = refl
no_start (b ∷ rest) ends = grind (arith, nat_tests)

pub variable_token : (x : List ℕ) → (x ≡ []) ⊎ (is_name_byte x ≡ true) → IsToken kind.Variable (36 ∷ x)
variable_token x (inl none) rest ends number = inl (ap (λ (y : List ℕ). 36 ∷ y) none, no_start rest ends)
variable_token x (inr is) rest ends number = inr (x, refl, is, ends)

pub function_is_name : (f : Func) → is_name_byte (function_name f) ≡ true
function_is_name func.And = refl
function_is_name func.Or = refl
function_is_name func.Not = refl
function_is_name func.Eq = refl
function_is_name func.Ne = refl
function_is_name func.Lt = refl
function_is_name func.Le = refl
function_is_name func.Gt = refl
function_is_name func.Ge = refl
function_is_name func.Index = refl
function_is_name func.Slice = refl
function_is_name func.Len = refl
function_is_name func.Print = refl
function_is_name func.Println = refl
function_is_name func.Printf = refl
function_is_name func.Html = refl
function_is_name func.Urlquery = refl

pub function_means : (f : Func) → meaning kind.Name (function_name f) ≡ Some (symbol.Function f)
function_means f = ap Some (reads_back f)

-- digits
all_digits : (ds : List ℕ) → AllDigits 10 ds → list_all (λ b. is_digit b 10) ds ≡ true
all_digits [] h = refl
all_digits (d ∷ ds) h =
    let e : is_digit d 10 ≡ true = grind (arith, nat_tests, h.0) in
    rw e (all_digits ds h.1)

no_mark : (mark b : ℕ) (marks bs : List ℕ) → nat_eq b mark ≡ false → begins (mark ∷ marks) (b ∷ bs) ≡ false
no_mark mark b marks bs differs = either (begins (mark ∷ marks) (b ∷ bs))
    (λ t. let same : b ≡ mark = heads (begins-is (mark ∷ marks) (b ∷ bs) t) in let e : nat_eq b mark ≡ true = grind (arith, nat_tests) in absurd (true≢false (sym e ∙ differs)))
    (λ f. f)

-- digits of which the first is no zero, and not a sign
record IsPlain (ds : List ℕ) (n : ℕ) : Type 0 where
  value : magnitude ds ≡ Some n
  no_sign : first_is is_sign ds ≡ false
  no_minus : begins (codes "-") ds ≡ false

plain_digits : (ds : List ℕ) (n : ℕ) → 0 < length ds → AllDigits 10 ds → digits_value 10 ds ≡ n → 48 < get_or ds 0 0 → IsPlain ds n
plain_digits [] n some all value first = absurd (omega (arith, some))
plain_digits (d ∷ ds) n some all value first =
    let digit : digit_value d < 10 = all.0 in
    let zero_no : nat_eq d 48 ≡ false = grind (arith, nat_tests) in
    let minus_no : nat_eq d 45 ≡ false = grind (arith, nat_tests) in
    let sign_no : is_sign d ≡ false = grind (arith, nat_tests) in
    let hexadecimal = no_mark 48 d (codes "x") ds zero_no in
    let leading = no_mark 48 d [] ds zero_no in
    record {
      value = rw (hexadecimal, leading) (numeral_some 10 d ds (all_digits (d ∷ ds) all) ∙ ap Some value);
      no_sign = sign_no;
      no_minus = no_mark 45 d [] ds minus_no;
    }

plain_decimal : (n : ℕ) → 0 < n → n < 2 ^ 64 → IsPlain (decimal n) n
plain_decimal n some small =
    let h = decimal_is_IsNumeral n small in
    plain_digits (decimal n) n h.0.0 h.0.1 h.1 (first_decimal n some small)

fits_pos : (n : ℕ) → n < 2 ^ 63 → signed false n ≡ Some (pos n)
fits_pos n small =
    let e : nat_lt n (2 ^ 63) ≡ true = grind (arith, nat_tests) in
    rw e refl

fits_neg : (n : ℕ) → n < 2 ^ 63 → signed true (suc n) ≡ Some (negsuc n)
fits_neg n small =
    let e : nat_le (suc n) (2 ^ 63) ≡ true = grind (arith, nat_tests) in
    rw e refl

from_plain : (ds : List ℕ) (n : ℕ) → IsPlain ds n → n < 2 ^ 63 → number ds ≡ Some (pos n)
from_plain ds n h small = rw (h.no_minus, h.no_sign, h.value) (fits_pos n small)

from_minus : (ds : List ℕ) (n : ℕ) → IsPlain ds (suc n) → n < 2 ^ 63 → number (45 ∷ ds) ≡ Some (negsuc n)
from_minus ds n h small = rw h.value (fits_neg n small)

number_is : (n : ℤ) → IsSmall n → number (signed_decimal n) ≡ Some n
number_is (pos zero) small = ap number (decimal_digit 0 (omega arith))
number_is (pos (suc n)) small = from_plain (decimal (suc n)) (suc n) (plain_decimal (suc n) (omega arith) (omega arith)) small
number_is (negsuc n) small = from_minus (decimal (suc n)) n (plain_decimal (suc n) (omega arith) (omega arith)) small

pub number_token : (n : ℤ) → IsSmall n → IsToken (kind.Number n) (signed_decimal n)
number_token n small rest ends dotless = (number_is n small, ends, dotless refl)

-- the parts of a string that is printed
record IsString (value : List ℕ) : Type 0 where
  parts : List StringPart
  spelled : spelling parts ≡ print_escaped value
  mean : StandFor parts value

plain_byte : (b : ℕ) (bs : List ℕ) → nat_eq b 92 ≡ false → nat_eq b 34 ≡ false → nat_eq b 10 ≡ false → print_escaped (b ∷ bs) ≡ b ∷ print_escaped bs
plain_byte b bs e f g = rw (e, f, g) refl

more_string : (b : ℕ) (bs : List ℕ) → IsString bs → IsString (b ∷ bs)
unfolding lib.Utf8.encode
more_string b bs h = either (nat_eq b 92)
    (λ t. let is : b ≡ 92 = tells b 92 t in
    record { parts = escape (codes "\\") ∷ h.parts; spelled = ap (λ (xs : List ℕ). 92 ∷ 92 ∷ xs) h.spelled ∙ ap (λ (x : ℕ). print_escaped (x ∷ bs)) (sym is); mean = (92, bs, ap (λ (x : ℕ). x ∷ bs) is, refl, h.mean) })
    (λ e. either (nat_eq b 34)
    (λ t. let is : b ≡ 34 = tells b 34 t in
    record { parts = escape (codes "\"") ∷ h.parts; spelled = ap (λ (xs : List ℕ). 92 ∷ 34 ∷ xs) h.spelled ∙ ap (λ (x : ℕ). print_escaped (x ∷ bs)) (sym is); mean = (34, bs, ap (λ (x : ℕ). x ∷ bs) is, refl, h.mean) })
    (λ f. either (nat_eq b 10)
    (λ t. let is : b ≡ 10 = tells b 10 t in
    record { parts = escape (codes "n") ∷ h.parts; spelled = ap (λ (xs : List ℕ). 92 ∷ 110 ∷ xs) h.spelled ∙ ap (λ (x : ℕ). print_escaped (x ∷ bs)) (sym is); mean = (10, bs, ap (λ (x : ℕ). x ∷ bs) is, refl, h.mean) })
    (λ g. let passes : is_plain_byte b ≡ true = rw (e, f, g) refl in
    record { parts = plain b ∷ h.parts; spelled = ap (λ (xs : List ℕ). b ∷ xs) h.spelled ∙ sym (plain_byte b bs e f g); mean = (bs, refl, passes, h.mean) })))

string_is : (value : List ℕ) → IsString value
string_is [] = record { parts = []; spelled = refl; mean = refl }
string_is (b ∷ bs) = more_string b bs (string_is bs)

pub string_token : (value : List ℕ) → IsToken (kind.Str value) (codes "\"" ++ (print_escaped value ++ codes "\""))
string_token value rest ends number =
    let h = string_is value in
    inl (record { parts = h.parts; spelled = ap (λ (xs : List ℕ). codes "\"" ++ (xs ++ codes "\"")) (sym h.spelled); mean = h.mean })
