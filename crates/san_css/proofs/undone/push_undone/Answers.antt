use Rattle.std.proofs.Common.{◌++◌, List, ℕ, ap, ◌∙◌, arith, rules, string_bytes, sym}
use Rattle.std.proofs.lemmas.Str.Pattern.{split_parts}
use Rattle.san_css.proofs.Undoes.{none-left, undone-on}
use Rattle.san_css.proofs.undone.push_undone.Goals as goal

pub loop-front-preserved : goal.loop-front-preserved
loop-front-preserved c =
    let parts = split_parts 92 c.loop-front.rest.now c.split_once.result c.split_once.ensures.cases (omega arith) in
    let here = rw c.in-Some.is at parts in
    record {
      utf8 = search rules;
      written = undone-on c.in-Some.front.now c.in-Some.behind.now c.loop-front.rest.now _ (string_bytes c.loop-front.out) (string_bytes c.push_str.new.self) (string_bytes c.push_escaped.new.out) c.in_ok-rest.rest.now here.0 here.1 c.in_ok-push_str.ensures.bytes c.in_ok-rest.ensures.written c.loop-front.invariant.written;
    }

pub returns : goal.returns
returns c =
    let parts = split_parts 92 c.loop-front.rest.now c.split_once.result c.split_once.ensures.cases (omega arith) in
    let lacks = rw c.in_default.is at parts in
    c.in_ok-push_str-2.ensures.bytes ∙ ap (λ (bs : List ℕ). string_bytes c.loop-front.out ++ bs) (sym (none-left c.loop-front.rest.now lacks)) ∙ c.loop-front.invariant.written
