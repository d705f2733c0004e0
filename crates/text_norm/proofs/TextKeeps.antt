-- What is written of text, and of a `<` in it, leads the page's reading where the path's leads.
use Rattle.std.proofs.Common.{◌≡◌, ℕ, false, codes, List, [], ◌∷◌, ◌++◌, refl, sym, ap, ◌∙◌, subst}
use Rattle.std.proofs.lemmas.List.{append-nil, append_assoc}
use Rattle.place_core.specs.page.Classes.{Class, ExclamationMark, Ampersand, Solidus, LessThan, QuestionMark, Letter, class_of}
use Rattle.place_core.specs.page.Comments.{Declaration, OpensComment, OpensDoctype, Undecided, OpensNothing, declared_by}
use Rattle.place_core.specs.page.Events.{LexEvent, event_text_bytes}
use Rattle.place_core.specs.page.Html.{next, emits, next_text, emits_text, next_tag_open, emits_tag_open, next_end_tag_open, emits_end_tag_open, next_declaration, emits_declaration}
use Rattle.place_core.specs.page.References.{Reference, Closed, Open, as_it_stands, next_reference, settled, undone_byte, flushed}
use Rattle.place_core.specs.page.States.{Template, Text, TagOpen, EndTagOpen, DeclarationOpen, Config, config}
use Rattle.place_core.specs.page.Tags.{ValueLanguage, ValueState}
use Rattle.place_core.proofs.Readings.{text_bytes-append}
use Rattle.text_norm.specs.Standing.{PendingDeclaration, PendingLessThan, TextStands, StandsIn, page, standing_text}
use Rattle.text_norm.specs.Written.{declaration_out, less_out, reference_out, solidus_out, text_out}
use Rattle.text_norm.proofs.Declared.{undecided-own}
use Rattle.text_norm.proofs.Places.{text-run, text-since}
use Rattle.text_norm.proofs.Runs.{follows-run, lt-read, on}

pub class_less : class_of 60 ≡ LessThan
unfolding class_of
class_less = refl

pub class_solidus : class_of 47 ≡ Solidus
unfolding class_of
class_solidus = refl

class_bang : class_of 33 ≡ ExclamationMark
unfolding class_of
class_bang = refl

-- what an `&` after it tells of an open reference is what is told of it where it is settled
pub behind-amp : (r : Reference) → undone_byte false r Ampersand 38 ≡ settled false r
behind-amp Closed = refl
behind-amp (Open f h) = append-nil (flushed false false f h)

pub lone-less : (x : ValueLanguage ValueState) (r : Reference) (t : List LexEvent) → page x (codes "&lt;") (config (Text r) t) ≡ config (Text Closed) (event_text_bytes (codes "<") (event_text_bytes (settled false r) t))
lone-less x r t =
    lt-read (text-run x t) r []
    ∙ ap (λ (l : List ℕ). config (Text Closed) (event_text_bytes (l ++ 60 ∷ []) t)) (behind-amp r)
    ∙ ap (config (Text Closed)) (text_bytes-append (settled false r) (60 ∷ []) t)

-- a `<` in text
less-tag : (x : ValueLanguage ValueState) (r : Reference) (t : List LexEvent) → page x (codes "<") (config (Text r) t) ≡ config (TagOpen r) t
less-tag x r t = rw class_less refl

less-end : (x : ValueLanguage ValueState) (r : Reference) (t : List LexEvent) → page x (codes "</") (config (Text r) t) ≡ config (EndTagOpen r) t
less-end x r t = rw (class_less, class_solidus) refl

less-declaration : (x : ValueLanguage ValueState) (r : Reference) (t : List LexEvent) → page x (codes "<!") (config (Text r) t) ≡ config (DeclarationOpen r []) t
less-declaration x r t = rw (class_less, class_bang) refl

less-pending : (x : ValueLanguage ValueState) (r : Reference) (t : List LexEvent) (d : Config ValueState) → StandsIn x (standing_text t) r d → PendingLessThan ValueState x r t d
less-pending x Closed t d h = record {
  less = ap (page x (codes "&lt;")) h ∙ lone-less x Closed t;
  cut = h;
  tag = ap (page x (codes "<")) h ∙ less-tag x Closed t;
  end = ap (page x (codes "</")) h ∙ less-end x Closed t;
  declaration = ap (page x (codes "<!")) h ∙ less-declaration x Closed t;
}
less-pending x (Open f bytes) t d h = record {
  less = on x (38 ∷ bytes) (codes "&lt;") d _ h.as_is ∙ lone-less x (Open f bytes) t;
  cut = h.cut;
  tag = on x (38 ∷ bytes) (codes "<") d _ h.as_is ∙ less-tag x (Open f bytes) t;
  end = on x (38 ∷ bytes) (codes "</") d _ h.as_is ∙ less-end x (Open f bytes) t;
  declaration = on x (38 ∷ bytes) (codes "<!") d _ h.as_is ∙ less-declaration x (Open f bytes) t;
}

-- a byte of text
pub in-text : (x : ValueLanguage ValueState) (r : Reference) (c : Class) (b : ℕ) (t : List LexEvent) (d : Config ValueState) → class_of b ≡ c → StandsIn x (standing_text t) r d
    → TextStands x (next_text c b r) (emits_text c b r t) (page x (text_out c b r) d)
in-text x r LessThan b t d e h = less-pending x r t d h
in-text x r c b t d e h = text-since x t (undone_byte false r c b) (next_reference r c b) (page x (reference_out r c b) d) (follows-run (text-run x t) r c b d e refl h)

-- likewise, after a `<` that begins nothing
behind-less : (x : ValueLanguage ValueState) (xs ys : List ℕ) (d : Config ValueState) (u v : List LexEvent) (c : Class) (b : ℕ) → class_of b ≡ c → page x xs d ≡ config (Text Closed) u
    → page x ys (config (Text Closed) u) ≡ config (Text Closed) v → TextStands x (next_text c b Closed) (emits_text c b Closed v) (page x (xs ++ (ys ++ text_out c b Closed)) d)
behind-less x xs ys d u v c b e h k =
    let there : page x (xs ++ (ys ++ text_out c b Closed)) d ≡ page x (text_out c b Closed) (config (Text Closed) v) = on x xs (ys ++ text_out c b Closed) d _ h ∙ on x ys (text_out c b Closed) (config (Text Closed) u) _ k in
    rw there (in-text x Closed c b v (config (Text Closed) v) e refl)

pub in-tag-open : (x : ValueLanguage ValueState) (r : Reference) (c : Class) (b : ℕ) (t : List LexEvent) (d : Config ValueState) → class_of b ≡ c → PendingLessThan ValueState x r t d
    → TextStands x (next_tag_open Template c b r) (emits_tag_open Template c b r t) (page x (less_out c b r) d)
in-tag-open x r (Letter l) b t d e h = on x (as_it_stands r ++ codes "<") (b ∷ []) d _ h.tag ∙ rw e refl
in-tag-open x r Solidus b t d e h = h
in-tag-open x r ExclamationMark b t d e h = record { less = h.less; cut = h.cut; goes_on = h.declaration; own = λ u. rw class_bang refl }
in-tag-open x r QuestionMark b t d e h = behind-less x (as_it_stands r ++ codes "&lt;") [] d _ _ QuestionMark b e h.less refl
in-tag-open x r c b t d e h = behind-less x (as_it_stands r ++ codes "&lt;") [] d _ _ c b e h.less refl

own-solidus : (x : ValueLanguage ValueState) (u : List LexEvent) → page x (codes "/") (config (Text Closed) u) ≡ config (Text Closed) (event_text_bytes (codes "/") u)
own-solidus x u = rw class_solidus refl

pub in-end-tag-open : (x : ValueLanguage ValueState) (r : Reference) (c : Class) (b : ℕ) (t : List LexEvent) (d : Config ValueState) → class_of b ≡ c → PendingLessThan ValueState x r t d
    → TextStands x (next_end_tag_open Template c b) (emits_end_tag_open Template c b r t) (page x (solidus_out c b r) d)
in-end-tag-open x r (Letter l) b t d e h = on x (as_it_stands r ++ codes "</") (b ∷ []) d _ h.end ∙ rw e refl
in-end-tag-open x r c b t d e h = behind-less x (as_it_stands r ++ codes "&lt;") (codes "/") d _ _ c b e h.less (own-solidus x (event_text_bytes (codes "<") (event_text_bytes (settled false r) t)))

-- after `<!`
grown : (x : ValueLanguage ValueState) (pending : List ℕ) (b : ℕ) (u : List LexEvent) → declared_by (pending ++ b ∷ []) ≡ Undecided → page x (codes "!" ++ pending) (config (Text Closed) u) ≡ config (Text Closed) (event_text_bytes (codes "!" ++ pending) u)
    → page x (codes "!" ++ (pending ++ b ∷ [])) (config (Text Closed) u) ≡ config (Text Closed) (event_text_bytes (codes "!" ++ (pending ++ b ∷ [])) u)
grown x pending b u k h =
    on x (codes "!" ++ pending) (b ∷ []) (config (Text Closed) u) _ h
    ∙ undecided-own x pending b (event_text_bytes (codes "!" ++ pending) u) k
    ∙ sym (ap (config (Text Closed)) (text_bytes-append (codes "!" ++ pending) (b ∷ []) u))

longer : (r : Reference) (pending : List ℕ) (b : ℕ) → as_it_stands r ++ (codes "<!" ++ (pending ++ b ∷ [])) ≡ (as_it_stands r ++ (codes "<!" ++ pending)) ++ b ∷ []
longer r pending b = sym (append_assoc (as_it_stands r) (codes "<!" ++ pending) (b ∷ []))

declared : (x : ValueLanguage ValueState) (n : Declaration) (r : Reference) (pending : List ℕ) (c : Class) (b : ℕ) (t : List LexEvent) (d : Config ValueState) → class_of b ≡ c → declared_by (pending ++ b ∷ []) ≡ n → PendingDeclaration ValueState x r pending t d
    → TextStands x (next_declaration n Template c b r pending) (emits_declaration n Template c b r pending t) (page x (declaration_out n c b r pending) d)
declared x OpensComment r pending c b t d e k h = h.cut
declared x OpensDoctype r pending c b t d e k h = on x (as_it_stands r ++ (codes "<!" ++ pending)) (b ∷ []) d _ h.goes_on ∙ rw k refl
declared x Undecided r pending c b t d e k h = record {
  less = h.less;
  cut = h.cut;
  goes_on = ap (λ (l : List ℕ). page x l d) (longer r pending b) ∙ on x (as_it_stands r ++ (codes "<!" ++ pending)) (b ∷ []) d _ h.goes_on ∙ rw k refl;
  own = λ u. grown x pending b u k (h.own u);
}
declared x OpensNothing r pending c b t d e k h =
    subst (λ (l : List ℕ). TextStands x (next_text c b Closed) (emits_text c b Closed (event_text_bytes (codes "<!" ++ pending) (event_text_bytes (settled false r) t))) (page x ((as_it_stands r ++ codes "&lt;") ++ l) d))
    (append_assoc (codes "!") pending (text_out c b Closed))
    (behind-less x (as_it_stands r ++ codes "&lt;") (codes "!" ++ pending) d _ _ c b e h.less (h.own (event_text_bytes (codes "<") (event_text_bytes (settled false r) t))))

pub in-declaration : (x : ValueLanguage ValueState) (r : Reference) (pending : List ℕ) (c : Class) (b : ℕ) (t : List LexEvent) (d : Config ValueState) → class_of b ≡ c → PendingDeclaration ValueState x r pending t d
    → TextStands x (next x Template (DeclarationOpen r pending) c b) (emits x Template (DeclarationOpen r pending) c b t) (page x (declaration_out (declared_by (pending ++ b ∷ [])) c b r pending) d)
in-declaration x r pending c b t d e h = declared x (declared_by (pending ++ b ∷ [])) r pending c b t d e refl h
