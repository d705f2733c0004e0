-- What is written of a text leads the page's reading where the path's reading of the text leads.
use Rattle.std.proofs.Common.{◌≡◌, ℕ, ◌+◌, Bool, true, false, codes, List, [], ◌∷◌, ◌++◌, length, Option, Some, None, refl, sym, ap, ◌∙◌, subst}
use Rattle.place_core.specs.page.Classes.{Class, GreaterThan, class_of}
use Rattle.place_core.specs.page.Comments.{closes_comment, comment_ended, next_in_comment}
use Rattle.place_core.specs.place.Errors.{PathCause, PathRefusal, broken_off, byte_error, cut_error, first_byte_error, language_error, lexeme_error, refusal_from, standing_at, states, TextRead, first_path_refusal, nests_too_deep, nothing_read, read_behind, script_byte_refusal, script_cut_refusal, unless_in_script}
use Rattle.place_core.specs.page.Events.{LexEvent, event_text_bytes}
use Rattle.place_core.specs.page.Html.{ends_value, next, read_over, emits}
use Rattle.place_core.specs.place.Membership.{IsIn}
use Rattle.place_core.specs.page.Paths.{at_cut, read_node, emits_cut}
use Rattle.place_core.specs.page.References.{Closed, Open, as_it_stands, settled}
use Rattle.place_core.specs.page.States.{Page, Template, LexState, Text, TagOpen, EndTagOpen, DeclarationOpen, CommentState, InComment, BogusComment, InDoctype, TagName, WholeTagName, BeforeAttributeName, AttributeName, WholeAttributeName, AfterAttributeName, BeforeAttributeValue, AttributeValue, AfterAttributeValue, SelfClosingStartTag, Characters, Bytes, InLanguage, Nothing, PendingLess, LessAtCut, PendingName, PendingBang, PendingBangDash, PendingOpening, InContent, Config, config}
use Rattle.place_core.specs.page.Tags.{Tag, ValueLanguage, ValueOf, Deciding, ValueState, OfKind, OfScript, OfStyle, OfUrl, languages, feeding, attribute_value_of}
use Rattle.place_core.specs.declared.code.Code.{Code}
use Rattle.place_core.specs.declared.kind.Kind.{Kind}
use Rattle.place_core.proofs.Readings.{over-append}
use Rattle.html_step.proofs.OnePath.{none-at-hand, some}
use Rattle.html_step.proofs.OneTexts.{one-text}
use Rattle.html_step.proofs.WholeTexts.{covers-text, grows-text}
use Rattle.text_norm.specs.Laws.{KeepsShape}
use Rattle.text_norm.proofs.Same.{written-on-paths}
use Rattle.text_norm.specs.Standing.{TextStands, page}
use Rattle.text_norm.specs.Written.{cut_out, out, written}
use Rattle.text_norm.proofs.ContentKeeps.{in-block, in-content}
use Rattle.text_norm.proofs.Runs.{on}
use Rattle.text_norm.proofs.ScriptsKeep.{cut-script, in-script}
use Rattle.text_norm.proofs.StyleElementKeeps.{cut-language, in-language}
use Rattle.text_norm.proofs.TagsKeep.{after-name, before-leads, in-name, in-tag-name, in-whole-name, in-whole-tag}
use Rattle.text_norm.proofs.TextKeeps.{class_solidus, in-declaration, in-end-tag-open, in-tag-open, in-text}
use Rattle.text_norm.proofs.LanguagesKeep.{languages-keep}
use Rattle.text_norm.proofs.ValuesKeep.{before-value, both-none, cut-alike, fed-taken, in-value}

-- what a language and what the rest refuse of a value
value-taken : (tag : Tag) (k : Kind) (c : Class) (b : ℕ) → byte_error (BeforeAttributeValue tag k) c b ≡ None → first_byte_error (feeding languages) (attribute_value_of languages k) c b ≡ None
value-taken tag k c b n = (both-none (first_byte_error (feeding languages) (attribute_value_of languages k) c b) _ n).0

-- a comment writes nothing
in-comment : (x : ValueLanguage ValueState) (ended : Bool) (t : List LexEvent) (d : Config ValueState) → d ≡ config (Text Closed) t → TextStands x (comment_ended ended) t d
in-comment x true t d h = h
in-comment x false t d h = h

comment-leads : (x : ValueLanguage ValueState) (s : CommentState) (c : Class) (t : List LexEvent) (d : Config ValueState) → d ≡ config (Text Closed) t → TextStands x (next_in_comment c s) t d
comment-leads x s GreaterThan t d h = in-comment x (closes_comment s) t d h
comment-leads x s _ t d h = h

-- a byte in each state
follows : (s : LexState ValueState) (c : Class) (b : ℕ) (t : List LexEvent) (d : Config ValueState) → class_of b ≡ c → byte_error s c b ≡ None → TextStands languages s t d
    → TextStands languages (next languages Template s c b) (emits languages Template s c b t) (page languages (out languages s c b) d)
follows (Text r) c b t d e n h = in-text languages r c b t d e h
follows (TagOpen r) c b t d e n h = in-tag-open languages r c b t d e h
follows (EndTagOpen r) c b t d e n h = in-end-tag-open languages r c b t d e h
follows (DeclarationOpen r pending) c b t d e n h = in-declaration languages r pending c b t d e h
follows (InComment s) c b t d e n h = comment-leads languages s c t d h
follows BogusComment c b t d e n h = absurd h
follows InDoctype GreaterThan b t d e n h = rw (h, e) refl
follows InDoctype _ b t d e n h = rw (h, e) refl
follows (TagName ends name) c b t d e n h = in-tag-name ends name c b t d e h
follows (WholeTagName tag) c b t d e n h = in-whole-tag tag c b t d e (none-at-hand _ n) h
follows (BeforeAttributeName tag) c b t d e n h = before-leads tag c b _ (page languages (b ∷ []) d) (rw (h, e) refl)
follows (AttributeName tag name) c b t d e n h = in-name tag name c b t d e h
follows (WholeAttributeName tag k) c b t d e n h = in-whole-name tag k c b t d e (none-at-hand _ n) h
follows (AfterAttributeName tag k) c b t d e n h = after-name tag k c b t d e h
follows (BeforeAttributeValue tag k) c b t d e n h = before-value languages-keep tag k c b t d e (value-taken tag k c b n) h
follows (AttributeValue q tag v r) c b t d e n h =
    let m = both-none (language_error (feeding languages) (ends_value q c) v r c b) _ n in
    in-value languages-keep q tag v r c b t d e m.0 h
follows (AfterAttributeValue tag) c b t d e n h = before-leads tag c b _ (page languages (b ∷ []) d) (rw (h, e) refl)
follows (SelfClosingStartTag tag) c b t d e n h = before-leads tag c b _ (page languages (b ∷ []) d) (rw (h, e) refl)
follows (InContent x (Characters r) pending) c b t d e n h = in-content languages x r pending c b t d e h
follows (InContent x Bytes pending) c b t d e n h = in-block languages x pending c b t d e n h
follows (InContent x (InLanguage (OfStyle s)) pending) c b t d e n h = in-language x s pending c b t d e n h
follows (InContent x (InLanguage (OfScript s)) pending) c b t d e n h = in-script x s pending c b t d e n h
follows (InContent x (InLanguage (OfKind k)) pending) c b t d e n h = absurd h
follows (InContent x (InLanguage (OfUrl u)) pending) c b t d e n h = absurd h

-- the end of the node
cut-follows : (s : LexState ValueState) (t : List LexEvent) (d : Config ValueState) → cut_error s ≡ None → lexeme_error s ≡ None → TextStands languages s t d
    → TextStands languages (at_cut languages s) (emits_cut languages s t) (page languages (cut_out languages s) d)
cut-follows (Text Closed) t d n m h = h
cut-follows (Text (Open f bytes)) t d n m h = h.cut
cut-follows (TagOpen r) t d n m h = h.less
cut-follows (EndTagOpen r) t d n m h = on languages (as_it_stands r ++ codes "&lt;") (codes "/") d _ h.less ∙ rw class_solidus refl
cut-follows (DeclarationOpen r pending) t d n m h =
    on languages (as_it_stands r ++ codes "&lt;") (codes "!" ++ pending) d _ h.less ∙ h.own (event_text_bytes (codes "<") (event_text_bytes (settled false r) t))
cut-follows (InComment s) t d n m h = h
cut-follows BogusComment t d n m h = absurd h
cut-follows InDoctype t d n m h = h
cut-follows (TagName ends name) t d n m h = record { ends = ends; name = name; named = refl; at = h }
cut-follows (WholeTagName tag) t d n m h = h
cut-follows (BeforeAttributeName tag) t d n m h = h
cut-follows (AttributeName tag name) t d n m h = record { name = name; named = refl; at = h }
cut-follows (WholeAttributeName tag k) t d n m h = h
cut-follows (AfterAttributeName tag k) t d n m h = h
cut-follows (BeforeAttributeValue tag k) t d n m h = h
cut-follows (AttributeValue q tag (ValueOf v) r) t d n m h = cut-alike languages-keep q tag v r t d (fed-taken languages v (as_it_stands r) true (length (as_it_stands r)) n) m h
cut-follows (AttributeValue q tag (Deciding k before) r) t d n m h = absurd (some _ n)
cut-follows (AfterAttributeValue tag) t d n m h = h
cut-follows (SelfClosingStartTag tag) t d n m h = h
cut-follows (InContent e (Characters Closed) Nothing) t d n m h = h
cut-follows (InContent e (Characters (Open f bytes)) Nothing) t d n m h = h.cut
cut-follows (InContent e (Characters Closed) PendingLess) t d n m h = h.less
cut-follows (InContent e (Characters Closed) (PendingName letters)) t d n m h = on languages (codes "&lt;") (codes "/" ++ letters) d _ h.less ∙ h.own (event_text_bytes (codes "<") t)
cut-follows (InContent e (Characters (Open f bytes)) PendingLess) t d n m h = absurd h
cut-follows (InContent e (Characters (Open f bytes)) (PendingName letters)) t d n m h = absurd h
cut-follows (InContent e (Characters r) LessAtCut) t d n m h = absurd h
cut-follows (InContent e (Characters r) PendingBang) t d n m h = absurd h
cut-follows (InContent e (Characters r) PendingBangDash) t d n m h = absurd h
cut-follows (InContent e (Characters r) (PendingOpening letters)) t d n m h = absurd h
cut-follows (InContent e Bytes Nothing) t d n m h = h
cut-follows (InContent e Bytes PendingLess) t d n m h = h
cut-follows (InContent e Bytes LessAtCut) t d n m h = h
cut-follows (InContent e Bytes (PendingName letters)) t d n m h = absurd (some _ n)
cut-follows (InContent e Bytes PendingBang) t d n m h = absurd (some _ n)
cut-follows (InContent e Bytes PendingBangDash) t d n m h = absurd (some _ n)
cut-follows (InContent e Bytes (PendingOpening letters)) t d n m h = absurd h
cut-follows (InContent e (InLanguage (OfStyle s)) pending) t d n m h = cut-language e s pending t d n m h
cut-follows (InContent e (InLanguage (OfScript s)) pending) t d n m h = cut-script e s pending t d n h
cut-follows (InContent e (InLanguage (OfKind k)) pending) t d n m h = absurd h
cut-follows (InContent e (InLanguage (OfUrl u)) pending) t d n m h = absurd h

-- what is refused at no byte
pub goes : (k : ℕ) (o : Option PathCause) (rest : Option PathRefusal) → standing_at k o rest ≡ None → (o ≡ None) × (rest ≡ None)
goes k None rest n = (refl, n)
goes k (Some e) rest n = absurd (some _ n)

-- nor by what a script is told later
unless-told : (k : ℕ) (x : Option PathRefusal) (o : Option PathCause) (rest : Option PathRefusal) → unless_in_script k x o rest ≡ None
    → (o ≡ None) × (rest ≡ None)
unless-told k None o rest n = goes k o rest n
unless-told k (Some x) o rest n = absurd (some _ n)

-- nor at the node's end
first : (x o : Option PathRefusal) → first_path_refusal x o ≡ None → o ≡ None
first None o n = n
first (Some x) o n = absurd (some _ n)

whole : (k since : ℕ) (o : Option Code) → broken_off k since o ≡ None → o ≡ None
whole k since None n = refl
whole k since (Some e) n = absurd (some _ n)

pub keeps-from : (bytes : List ℕ) (k : ℕ) (since : TextRead) (s : LexState ValueState) (t : List LexEvent) (d : Config ValueState) → refusal_from k since bytes s ≡ None → TextStands languages s t d
    → (let c = read_node languages bytes (config s t) in TextStands languages c.at c.emitted (page languages (written languages bytes s) d))
keeps-from [] k since s t d n h =
    let broken = broken_off k since.last (lexeme_error s) in
    let m = unless-told k (script_cut_refusal k since.fed s) (cut_error s) (first_path_refusal (nests_too_deep k since.deep) broken) n in
    cut-follows s t d m.0 (whole k since.last (lexeme_error s) (first (nests_too_deep k since.deep) broken m.1)) h
keeps-from (b ∷ bs) k since s t d n h =
    let z = next languages Template s (class_of b) b in
    let later = read_behind k since s (class_of b) b in
    let m = unless-told k (script_byte_refusal k since.fed s (class_of b) b) (byte_error s (class_of b) b) (refusal_from (k + 1) later bs z) n in
    let u = emits languages Template s (class_of b) b t in
    let o = out languages s (class_of b) b in
    rw (over-append languages Page o (written languages bs z) d) (keeps-from bs (k + 1) later z u (page languages o d) m.1 (follows s (class_of b) b t d refl m.0 h))

-- the states of a reading are those of its bytes
same-states : (bytes : List ℕ) (s : LexState ValueState) (t : List LexEvent) → (read_over languages Template bytes (config s t)).at ≡ states bytes s
same-states [] s t = refl
same-states (b ∷ bs) s t = same-states bs (next languages Template s (class_of b) b) (emits languages Template s (class_of b) b t)

pub keeps-shape : KeepsShape
keeps-shape bytes p q s t d v i e h =
    let g = grows-text bytes i.own p q i.valid v i.below e in
    let n = ((one-text bytes i.own s i.stands).0 g.0 g.1).0 in
    let c = read_node languages bytes (config s t) in (
      subst (IsIn q) (sym (ap (at_cut languages) (same-states bytes s t))) (covers-text bytes p q s v i e),
      subst (λ (z : List ℕ). TextStands languages c.at c.emitted (page languages z d)) (written-on-paths bytes p q s v i e) (keeps-from bytes 0 nothing_read s t d n h),
    )
