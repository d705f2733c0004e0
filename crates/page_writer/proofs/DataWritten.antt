-- What is written for a datum in the code of a script is UTF-8.
use Rattle.std.proofs.Common.{◌≡◌, ◌++◌, ℕ, true, false, List, OnOk, Result, Ok, Err, arith, length, refl, string_bytes, subst, sym}
use Rattle.std.proofs.Math.Seq.{drop-append_seam, take-append_seam}
use Rattle.std.proofs.lemmas.List.{length-append}
use Rattle.std.proofs.lemmas.Str.{IsCharBoundary-from_take, IsUtf8-drop, IsUtf8-string_bytes}
use Rattle.std.specs.Prelude.{String}
use Rattle.std.specs.Str.{IsUtf8}
use Rattle.std.specs.declared.alloc.Global.{Global}
use Rattle.js_lexer.specs.Sanitizers.{js_value}
use Rattle.js_lexer.specs.ScriptBack.{IsJsonData}
use Rattle.page_datum.specs.Data.{Data}
use Rattle.page_path.specs.Textual.{IsTextFor}
use Rattle.place_core.specs.contracts.san.SanPartialEq.TheImpl as san_eq
use Rattle.place_core.specs.declared.san.San.{San}
use Rattle.place_core.specs.declared.san.San.TheVariants as san

-- what stands behind UTF-8 in UTF-8 is UTF-8
utf8-behind : (xs ys : List ℕ) → IsUtf8 xs → IsUtf8 (xs ++ ys) → IsUtf8 ys
utf8-behind xs ys front whole =
    let count = length-append xs ys in
    let cut = IsCharBoundary-from_take (xs ++ ys) (length xs) whole (omega (arith, count)) (subst IsUtf8 (sym (take-append_seam xs ys)) front) in
    subst IsUtf8 (drop-append_seam xs ys) (IsUtf8-drop (xs ++ ys) (length xs) whole cut)

-- the sanitizer that compares equal to that of a script's values is this one
no : false ≡ true → ⊥
no e = cc

is-of-data : (x : San) → (san_eq.ghosts).eq x san.JsValue ≡ true → x ≡ san.JsValue
is-of-data san.JsValue h = refl
is-of-data _ h = absurd (no h)

-- where it is written behind a text, what is asked of the datum holds
pub datum-textual : {T E : Type 0} (result : Result T E) (x : San) (datum : Data) (old new : String Global)
    → (san_eq.ghosts).eq x san.JsValue ≡ true → OnOk result (string_bytes new ≡ string_bytes old ++ js_value datum)
    → OnOk result (IsJsonData datum) → OnOk result (IsTextFor x datum)
datum-textual (Ok done) x datum old new h bytes whole =
    let utf8 = utf8-behind (string_bytes old) (js_value datum) (IsUtf8-string_bytes old) (subst IsUtf8 bytes (IsUtf8-string_bytes new)) in
    subst (λ (y : San). IsTextFor y datum) (sym (is-of-data x h)) (utf8, whole)
datum-textual (Err e) x datum old new h bytes whole = tt
