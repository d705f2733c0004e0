use Rattle.std.proofs.Common.{refl, ◌≡◌, ◌∙◌, ap, ◌++◌, ◌∷◌, [], List, ℕ}
use Rattle.page_datum.specs.Data.{DataDict, entry}
use Rattle.page_datum.specs.View.{view, entries_view}
use Rattle.page_datum.specs.declared.datum.Datum.{Datum}
use Rattle.page_datum.specs.declared.datum.Datum.TheVariants as datum
use Rattle.page_http.specs.Forms.{text_of, followed_by}
use Rattle.page_http.proofs.Pairs.{followed_push}
use Rattle.page_http.proofs.form.push_pair.Goals as goal

pub returns : goal.returns
returns c more =
    let old = c.args.pairs.now.items in
    let e : List ℕ × Datum = (c.in_ok-name.name, datum.Text c.in_ok-value.value) in
    let pushed : c.push.new.self.items ≡ old ++ e ∷ [] = c.in_ok-push.ensures.items in
    ap (λ (z : List (List ℕ × Datum)). followed_by (entries_view z) more) pushed ∙ followed_push old e more
    ∙ rw (c.in_ok-name.ensures, c.in_ok-value.ensures) refl
