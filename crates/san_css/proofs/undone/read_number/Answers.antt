use Rattle.std.proofs.Common.{◌≡◌, ◌<◌, ◌≤◌, ◌∙◌, arith, false, get_or, length, refl, rules, true}
use Rattle.std.specs.Char.{is_ascii_hexdigit}
use Rattle.std.proofs.lemmas.Str.{IsCharBoundary-after_ascii, IsCharBoundary-start}
use Rattle.san_css.proofs.Ascii.{digit-low}
use Rattle.san_css.proofs.Undoes.{digit-read, number-grows, number-small, read-before, read-full}
use Rattle.url_lexer.specs.Back.{hexadecimal_value}
use Rattle.san_css.proofs.undone.read_number.Goals as goal

pub loop-len-init : goal.loop-len-init
loop-len-init c = record {
  few = omega arith;
  fits = omega arith;
  cut = IsCharBoundary-start c.args.text.now c.utf8.text;
  value = refl;
}

pub overflow_mul-number : goal.overflow_mul-number
overflow_mul-number c =
    let few : c.loop-len.len < 6 = search rules in
    omega (arith, number-small c.loop-len.len c.loop-len.number few c.loop-len.invariant.fits)

pub overflow_add-number : goal.overflow_add-number
overflow_add-number c =
    let few : c.loop-len.len < 6 = search rules in
    omega (arith, number-small c.loop-len.len c.loop-len.number few c.loop-len.invariant.fits, c.digit.ensures.bound)

pub loop-len-preserved : goal.loop-len-preserved
loop-len-preserved c =
    let few : c.loop-len.len < 6 = search rules in
    let inside : c.loop-len.len < length c.args.text.now = search rules in
    let hexadecimal : is_ascii_hexdigit (get_or c.args.text.now c.loop-len.len 0) ≡ true = search rules in
    let digit : c.digit.result ≡ hexadecimal_value (get_or c.args.text.now c.loop-len.len 0) = search rules in
    record {
      few = omega (arith, few);
      fits = number-grows c.loop-len.len c.loop-len.number c.digit.result c.loop-len.invariant.fits c.digit.ensures.bound;
      cut = IsCharBoundary-after_ascii c.args.text.now c.loop-len.len c.utf8.text inside (digit-low (get_or c.args.text.now c.loop-len.len 0) hexadecimal);
      value = rw digit (digit-read c.args.text.now c.loop-len.len c.loop-len.number few inside hexadecimal ∙ c.loop-len.invariant.value);
    }

pub returns-else-is_ascii_hexdigit-clause-value : goal.returns-else-is_ascii_hexdigit-clause-value
returns-else-is_ascii_hexdigit-clause-value c =
    let inside : c.loop-len.len < length c.args.text.now = search rules in
    let other : is_ascii_hexdigit (get_or c.args.text.now c.loop-len.len 0) ≡ false = search rules in
    read-before c.args.text.now c.loop-len.len c.loop-len.number inside c.loop-len.invariant.value other

pub returns-after-loop-len-clause-value : goal.returns-after-loop-len-clause-value
returns-after-loop-len-clause-value c =
    let full : 6 ≤ c.loop-len.len = search rules in
    read-full c.args.text.now c.loop-len.len c.loop-len.number full c.loop-len.invariant.value
