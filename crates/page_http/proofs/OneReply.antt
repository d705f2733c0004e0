-- A request has one reply.
use Rattle.std.proofs.Common.{ℕ, ◌≡◌, ◌⊎◌, inl, inr, List, [], ◌∷◌, ◌++◌, codes, Result, Ok, Err, Some, arith, true≢false, refl, sym, ap, subst, ◌∙◌}
use Rattle.serde_json.specs.Data as json
use Rattle.page_datum.specs.Data.{Data}
use Rattle.page_datum.specs.Kinds.{data_refusal}
use Rattle.page_datum.specs.Reading.{IsJson, IsDatum, IsNoDatum, Path, data_of, shown_path}
use Rattle.page_datum.specs.Legible.{legible_path}
use Rattle.page_datum.proofs.OneDatum.{one_datum, no_cause}
use Rattle.page_datum.specs.declared.refused.DataRefused.{DataRefused}
use Rattle.page_datum.specs.declared.refused.DataRefused.TheVariants.{TooLong, TooDeep, NotJson, NotWhole, Memory}
use Rattle.page_http.specs.Forms.{form_data}
use Rattle.page_http.specs.Refusals.{refusal_reply, data_reply, text_reply}
use Rattle.page_http.specs.Asks.{Asked, refused, by_number, by_reload, by_form, by_json, IsRefusedWith, plan_of}
use Rattle.page_http.specs.Answers.{Executions, IsPageReply, IsReplyTo, HasOneReply, RequestsHaveOneReply}
use Rattle.page_http.specs.Pages.{page_reply, number_reply}
use Rattle.page_http.specs.declared.refusal.AskRefusal.{AskRefusal}
use Rattle.page_http.specs.declared.reply.Allow.TheVariants as allow
use Rattle.page_http.specs.declared.reply.Reply.{Reply}

abbrev at_path : Path → Result Data Path
at_path p = Err p

same_path : (v w : json.Data) (p q : Path) → v ≡ w → data_of v ≡ Err p → data_of w ≡ Err q → p ≡ q
same_path v w p q same e f = let both : at_path p ≡ at_path q = sym e ∙ ap data_of same ∙ f in cc

same_json : (bytes : List ℕ) (v w : json.Data) → IsJson bytes v → IsJson bytes w → v ≡ w
same_json bytes v w a b = let both : Some v ≡ Some w = sym a.reads ∙ b.reads in cc

-- bytes are refused as data in one way
one_text : (a b : DataRefused) (bytes : List ℕ) → IsNoDatum a bytes → IsNoDatum b bytes → data_refusal a ≡ data_refusal b
one_text (TooLong n) (TooLong m) bytes x y = refl
one_text (TooLong n) TooDeep bytes x y = absurd (omega (arith, x, y.0))
one_text (TooLong n) NotJson bytes x y = absurd (omega (arith, x, y.0.short))
one_text (TooLong n) (NotWhole path) bytes x y = absurd (omega (arith, x, y.0.short))
one_text (TooLong n) Memory bytes x y = absurd y
one_text TooDeep (TooLong n) bytes x y = absurd (omega (arith, y, x.0))
one_text TooDeep TooDeep bytes x y = refl
one_text TooDeep NotJson bytes x y = absurd (true≢false (sym x.1 ∙ y.0.flat))
one_text TooDeep (NotWhole path) bytes x y = absurd (true≢false (sym x.1 ∙ y.0.flat))
one_text TooDeep Memory bytes x y = absurd y
one_text NotJson (TooLong n) bytes x y = absurd (omega (arith, y, x.0.short))
one_text NotJson TooDeep bytes x y = absurd (true≢false (sym y.1 ∙ x.0.flat))
one_text NotJson NotJson bytes x y = refl
one_text NotJson (NotWhole path) bytes x y = absurd (x.1 y.1 y.3)
one_text NotJson Memory bytes x y = absurd y
one_text (NotWhole path) (TooLong n) bytes x y = absurd (omega (arith, y, x.0.short))
one_text (NotWhole path) TooDeep bytes x y = absurd (true≢false (sym y.1 ∙ x.0.flat))
one_text (NotWhole path) NotJson bytes x y = absurd (y.1 x.1 x.3)
one_text (NotWhole path) (NotWhole other) bytes x y =
    let same = same_path x.1 y.1 x.2 y.2 (same_json bytes x.1 y.1 x.3 y.3) x.4 y.4 in
    ap (λ (z : List ℕ). data_refusal (NotWhole z)) (x.5 ∙ ap shown_path same ∙ sym y.5)
one_text (NotWhole path) Memory bytes x y = absurd y
one_text Memory b bytes x y = absurd x

-- what a reply is for what is asked
abbrev Replies : Executions → Asked → ℕ → Reply → Type 0
Replies execution asked n reply =
    IsPageReply execution asked n reply
    ⊎ (((asked ≡ by_number) × (reply ≡ number_reply n)) ⊎ IsRefusedWith asked n reply)

only_refused : (execution : Executions) (why : AskRefusal) (n : ℕ) (a : Reply) → Replies execution (refused why) n a → a ≡ refusal_reply why n
only_refused execution why n a (inl p) = absurd p.asks
only_refused execution why n a (inr (inl e)) = let no : refused why ≡ by_number = e.0 in cc
only_refused execution why n a (inr (inr e)) = e

only_number : (execution : Executions) (n : ℕ) (a : Reply) → Replies execution by_number n a → a ≡ number_reply n
only_number execution n a (inl p) = absurd p.asks
only_number execution n a (inr (inl e)) = e.1
only_number execution n a (inr (inr e)) = absurd e

no_reply : (execution : Executions) (n : ℕ) (a : Reply) → Replies execution by_reload n a → ⊥
no_reply execution n a (inl p) = p.asks
no_reply execution n a (inr (inl e)) = let no : by_reload ≡ by_number = e.0 in cc
no_reply execution n a (inr (inr e)) = e

only_form : (execution : Executions) (name form : List ℕ) (n : ℕ) (a : Reply) → Replies execution (by_form name form) n a
    → a ≡ page_reply (execution name (form_data form)) n
only_form execution name form n a (inl p) =
    p.reply_is ∙ ap (λ (z : List ℕ). page_reply (execution z p.datum) n) p.asks.0
    ∙ ap (λ (z : Data). page_reply (execution name z) n) p.asks.1
only_form execution name form n a (inr (inl e)) = let no : by_form name form ≡ by_number = e.0 in cc
only_form execution name form n a (inr (inr e)) = absurd e

abbrev JsonReplies : Executions → List ℕ → List ℕ → ℕ → Reply → Type 0
JsonReplies execution name bytes n a =
    ((d : Data) × IsDatum bytes d × (a ≡ page_reply (execution name d) n))
    ⊎ ((why : DataRefused) × IsNoDatum why bytes × (a ≡ data_reply why n))

only_json : (execution : Executions) (name bytes : List ℕ) (n : ℕ) (a : Reply) → Replies execution (by_json name bytes) n a
    → JsonReplies execution name bytes n a
only_json execution name bytes n a (inl p) =
    inl (p.datum, p.asks.1, p.reply_is ∙ ap (λ (z : List ℕ). page_reply (execution z p.datum) n) p.asks.0)
only_json execution name bytes n a (inr (inl e)) = let no : by_json name bytes ≡ by_number = e.0 in cc
only_json execution name bytes n a (inr (inr e)) = inr e

one_json_reply : (execution : Executions) (name bytes : List ℕ) (n : ℕ) (a b : Reply)
    → JsonReplies execution name bytes n a → JsonReplies execution name bytes n b → a ≡ b
one_json_reply execution name bytes n a b (inl x) (inl y) =
    x.2 ∙ ap (λ (z : Data). page_reply (execution name z) n) (one_datum bytes x.0 y.0 x.1 y.1) ∙ sym y.2
one_json_reply execution name bytes n a b (inl x) (inr y) = absurd (no_cause y.0 bytes x.0 x.1 y.1)
one_json_reply execution name bytes n a b (inr x) (inl y) = absurd (no_cause x.0 bytes y.0 y.1 x.1)
one_json_reply execution name bytes n a b (inr x) (inr y) =
    x.2 ∙ ap (λ (z : List ℕ). text_reply 400 allow.Nothing n (codes "data " ++ (z ++ 10 ∷ []))) (one_text x.0 y.0 bytes x.1 y.1) ∙ sym y.2

one_reply : (execution : Executions) (asked : Asked) (n : ℕ) (a b : Reply) → Replies execution asked n a → Replies execution asked n b → a ≡ b
one_reply execution (refused why) n a b x y = only_refused execution why n a x ∙ sym (only_refused execution why n b y)
one_reply execution by_number n a b x y = only_number execution n a x ∙ sym (only_number execution n b y)
one_reply execution by_reload n a b x y = absurd (no_reply execution n a x)
one_reply execution (by_form name form) n a b x y = only_form execution name form n a x ∙ sym (only_form execution name form n b y)
one_reply execution (by_json name bytes) n a b x y =
    one_json_reply execution name bytes n a b (only_json execution name bytes n a x) (only_json execution name bytes n b y)

pub have_one_reply : RequestsHaveOneReply
have_one_reply execution r n = record {
  one = λ a b x y. one_reply execution (plan_of r n) n a b x y;
  reload = λ a x e. no_reply execution n a (subst (λ (z : Asked). Replies execution z n a) e x);
}
