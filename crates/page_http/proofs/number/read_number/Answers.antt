use Rattle.std.proofs.Common.{arith, ◌≡◌, ◌∙◌, sym, ap, drop, min, ◌+◌, ◌-◌, ◌*◌, ◌∷◌, get_or, true, List, ℕ}
use Rattle.std.proofs.Math.Seq.{drop-cons}
use Rattle.std.proofs.Math.Numerals.{unary_clauses}
use Rattle.std.specs.List.{list_all}
use Rattle.std.specs.Char.{is_ascii_digit, digit_value}
use Rattle.std.specs.Str.Parse.{digits_value_after}
use Rattle.page_http.proofs.Digits.{after_same, one_digit, digit_is}
use Rattle.page_http.proofs.number.read_number.Goals as goal

pub loop-byte-preserved : goal.loop-byte-preserved
loop-byte-preserved c =
    let text = c.args.text.now in
    let i = c.loop-byte.byte-index in
    let b = get_or text i 0 in
    let most = c.from-most.result in
    let rest : drop i text ≡ b ∷ drop (i + 1) text = simp unary_clauses (drop-cons text i 0 c.loop-byte-test.true) in
    let digit : is_ascii_digit b ≡ true = sym c.is_ascii_digit.ensures.value ∙ c.if-not-is_ascii_digit.false in
    let read : digit_value b ≡ b - 48 = digit_is b digit in
    record {
      most_is = c.loop-byte.invariant.most_is;
      bound = omega (arith, c.min-value.ensures);
      digits = one_digit b (drop (i + 1) text) digit ∙ ap (list_all is_ascii_digit) (sym rest) ∙ c.loop-byte.invariant.digits;
      same =
          after_same (most + 1) c.min-value.result (c.loop-byte.value * 10 + digit_value b) (drop (i + 1) text) (omega (arith, c.min-value.ensures, c.from.ensures, read))
          ∙ ap (λ (z : List ℕ). min (digits_value_after 10 c.loop-byte.value z) (most + 1)) (sym rest) ∙ c.loop-byte.invariant.same;
    }
