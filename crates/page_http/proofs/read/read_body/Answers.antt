use Rattle.std.proofs.Common.{arith, inr, sym, ap, ◌∙◌, ◌≡◌, ℕ, List, length, take, drop}
use Rattle.page_http.specs.declared.body_length.BodyLength.TheVariants as body
use Rattle.page_http.specs.Requests.{by_length, body_length_of}
use Rattle.page_http.proofs.Heads.{begins_of, length_is, len_fits, token_text, says_of}
use Rattle.page_http.proofs.KnownFields.{length_of}
use Rattle.page_http.proofs.read.read_body.Goals as goal

pub text_of-method-requires : goal.text_of-method-requires
text_of-method-requires c =
    let at = c.requires.head.1 in
    rw (c.of.ensures ∙ at.method) (token_text _ at.reads.0.method)

pub returns-in-Refused-clause-answers : goal.returns-in-Refused-clause-answers
returns-in-Refused-clause-answers c =
    let h = c.requires.head.0 in
    let at = c.requires.head.1 in
    by_length h c.in-Refused.status (begins_of _ _ _ _ h c.requires.front c.requires.room at)
    (sym (length_is _ _ _ _ h _ at (c.as_bytes.ensures.value ∙ c.text_of-method.ensures ∙ c.of.ensures) c.split_at.ensures.front) ∙ sym (length_of c.as_bytes.result.now _ _ c.find_known-known.ensures) ∙ sym c.body_length.ensures.value ∙ c.in-Refused.is)

pub split_at-requires-2 : goal.split_at-requires-2
split_at-requires-2 c = len_fits _ _ _ c.requires.front c.requires.within.section.len_fits

pub returns-then-rest-count-clause-answers : goal.returns-then-rest-count-clause-answers
returns-then-rest-count-clause-answers c =
    let h = c.requires.head.0 in
    let at = c.requires.head.1 in
    inr (
      h,
      c.in-Bytes.count,
      record {
        head = begins_of _ _ _ _ h c.requires.front c.requires.room at;
        length_is = sym (length_is _ _ _ _ h _ at (c.as_bytes.ensures.value ∙ c.text_of-method.ensures ∙ c.of.ensures) c.split_at.ensures.front) ∙ sym (length_of c.as_bytes.result.now _ _ c.find_known-known.ensures) ∙ sym c.body_length.ensures.value ∙ c.in-Bytes.is;
        less = omega (arith, at.len, c.split_at-2.ensures.back_len, c.if-rest-count.true);
      },
    )

pub returns-in-Ok-clause-answers : goal.returns-in-Ok-clause-answers
returns-in-Ok-clause-answers c =
    let h = c.requires.head.0 in
    let at = c.requires.head.1 in
    let r = c.in-Ok.request in
    let count : length r.body ≡ c.in-Bytes.count = omega (arith, ap length c.in-Ok.ensures.body, c.split_at-3.ensures.front_len) in
    let said : body_length_of h ≡ body.Bytes c.in-Bytes.count =
    sym (length_is _ _ _ _ h _ at (c.as_bytes.ensures.value ∙ c.text_of-method.ensures ∙ c.of.ensures) c.split_at.ensures.front) ∙ sym (length_of c.as_bytes.result.now _ _ c.find_known-known.ensures) ∙ sym c.body_length.ensures.value ∙ c.in-Bytes.is in (
      h,
      record {
        head = begins_of _ _ _ _ h c.requires.front c.requires.room at;
        says = says_of _ _ _ _ h _ _ r at (c.text_of-method.ensures ∙ c.of.ensures) (c.text_of-target.ensures ∙ c.of-2.ensures) c.split_at.ensures.front c.in-Ok.ensures.says;
        length_is = said ∙ ap (λ (k : ℕ). body.Bytes k) (sym count);
        body_is = c.in-Ok.ensures.body ∙ c.split_at-3.ensures.front ∙ ap (λ (k : ℕ). take k c.split_at-2.result.1.now) (sym count)
            ∙ ap (λ (z : List ℕ). take (length r.body) z) (c.split_at-2.ensures.back ∙ ap (λ (k : ℕ). drop k c.args.bytes.now) at.len);
        used_is = omega (arith, at.len, count);
        within = omega (arith, c.split_at-2.ensures.back_len, c.if-rest-count.false, len_fits _ _ _ c.requires.front c.requires.within.section.len_fits);
      },
    )
