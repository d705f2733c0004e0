-- What a byte does to what is pending back: a law for each scan state.
use Rattle.std.proofs.Common.{◌≡◌, ℕ, Bool, true, false, codes, List, [], ◌∷◌, ◌++◌, ◌⊎◌, inl, inr, refl, sym, ap, ◌∙◌, subst, arith}
use Rattle.std.proofs.lemmas.List.{append_assoc, append-nil}
use Rattle.std.proofs.lemmas.List.Folds.{list_all-append}
use Rattle.std.specs.Char.{is_ascii_alphabetic}
use Rattle.std.specs.List.{list_all}
use Rattle.css_lexer.proofs.WrittenKeeps.{solidus-byte}
use Rattle.css_lexer.specs.Classes.{style_class}
use Rattle.css_lexer.specs.declared.class.StyleClass.{StyleClass}
use Rattle.css_lexer.specs.declared.class.StyleClass.TheVariants as class
use Rattle.js_step.specs.ScriptScans.{ScriptScan}
use Rattle.place_core.specs.page.Classes.{Class, White, ExclamationMark, QuotationMark, NumberSign, Ampersand, Apostrophe, HyphenMinus, Solidus, Digit, Semicolon, LessThan, EqualsSign, GreaterThan, QuestionMark, GraveAccent, Letter, OtherByte}
use Rattle.place_core.specs.page.Comments.{Declaration, OpensComment, OpensDoctype, Undecided, OpensNothing, declared_by, next_comment, closes_comment}
use Rattle.place_core.specs.page.Contents.{may_be_name_of, is_name_of, pending_bytes}
use Rattle.place_core.specs.page.References.{Reference, Closed, Open, ReferenceStep, Grows, Closes, Breaks, turn, reference_turned, as_it_stands, begin_reference, next_reference, plain_bytes, undone_byte}
use Rattle.place_core.specs.page.States.{CommentState, Started, StartedDash, Inside, Dash, DashDash, Bang, Broken, Pending, Nothing, PendingLess, LessAtCut, PendingName, PendingBang, PendingBangDash, PendingOpening}
use Rattle.place_core.specs.page.Html.{ends_value}
use Rattle.place_core.specs.page.Tags.{element_on, feed_bytes, tag_of_name, Value, ValueState, Quoting, DoubleQuoted, SingleQuoted, Unquoted}
use Rattle.place_core.specs.page.Words.{kind_of}
use Rattle.place_core.specs.declared.body.Body.{Body}
use Rattle.place_core.specs.declared.body.Body.TheVariants as body
use Rattle.place_core.specs.declared.css.Css.{Css}
use Rattle.place_core.specs.declared.css.Css.TheVariants as css
use Rattle.place_core.specs.declared.element.Element.{Element}
use Rattle.place_core.specs.declared.element.Element.TheVariants as element
use Rattle.place_core.specs.declared.kind.Kind.{Kind}
use Rattle.place_core.specs.declared.kind.Kind.TheVariants as kind
use Rattle.place_core.specs.declared.place.Place.{Place}
use Rattle.place_core.specs.declared.place.Place.TheVariants as place
use Rattle.place_core.specs.declared.quotes.Quotes.{Quotes}
use Rattle.place_core.specs.declared.quotes.Quotes.TheVariants as quotes
use Rattle.place_core.specs.place.StatePlaces.{only_before}
use Rattle.place_core.specs.declared.tag_of.TagOf.{TagOf}
use Rattle.place_core.specs.declared.tag_of.TagOf.TheVariants as tag
use Rattle.place_core.specs.declared.tag_place.TagPlace.{TagPlace}
use Rattle.place_core.specs.declared.value_place.ValuePlace.{ValuePlace}
use Rattle.std.proofs.Common.{Option, Some, None}
use Rattle.std.specs.Prelude.{if◌then◌else◌}
use Rattle.css_step.specs.StyleScans.{StyleScan, ScanSolidus, ScanComment, ScanStarBefore, ScanString, ScanQuotedUrl, is_style_start, style_comment_next, style_scan_next, style_scan_place, style_scan_start}
use Rattle.css_lexer.specs.States.{DoubleQuote, SingleQuote}
use Rattle.html_scan.specs.Scans.{bare_leads, empty_style_between, quotes_lead, style_fed, style_feeding, style_scan, value_between, with_style, Scan, At, AfterLess, AfterLessSolidus, InDeclaration, InTagName, InAttributeName, InCommentEnd, InContentEnd, InStyleElement, InScriptElement, InUrl, InStyle, InScript, BeforeType, InType, after_type, attribute_name_next, bare_begun, bare_next, before_type_next, bare_white, comment_closed, comment_scan, comment_next, comment_state, content_end_next, content_scan, content_next, declaration_next, doctype_next, element_less_next, element_name_next, element_next, element_scan, end_name_next, ended_type, in_tag, in_type, pending_less_next, bang_next, scan_next, quoted_next, tag_name_next, tag_next, text_scan, type_next, type_tag, value_scan, type_begun, parts_feeding, triple_behind, url_scan, value_fed, with_parts, script_fed_next}
use Rattle.url_lexer.specs.Triples.{Triple, NoTriple, AfterPercent, AfterDigit}
use Rattle.text_norm.specs.Scanned.{comment_scan_out, declaration_open, scan_open, scan_out, scan_writing, style_scan_cut_out, style_scan_out}
use Rattle.text_norm.specs.Kept.{bears, change_of, comment_change, is_style_comment, end_letters, end_tag_change, in_style_comment, scan_kept, hides, less_kept, reference_kept, solidus_kept, stays, style_change, style_place_comment}
use Rattle.text_norm.specs.Written.{declaration_out, end_name_out, language_less_out, language_loose_out, language_name_out, text_escaped, loose_out, reference_out, text_out, turn_out}
use Rattle.text_norm.proofs.StyleScanBytes.{FedBytes, MayEnd, comment-cut, comment-keeps-nothing, cut-writes, fed, fed-pending, kept-or-not, no-comment-behind, written-behind, wrote}
use Rattle.text_norm.proofs.StyleScanWaits.{ScanOpens, scan-opens-or-not, scan-waits}
use Rattle.text_norm.specs.declared.pending.Change.{Change}
use Rattle.text_norm.specs.declared.pending.Change.TheVariants as change

no : false ≡ true → ⊥
no h = cc

yes : true ≡ false → ⊥
yes h = cc

-- the bytes of the classes that are written in another way, and of those that a name may have
abbrev pub Spelled : Class → ℕ → Type 0
Spelled Ampersand b = b ≡ 38
Spelled LessThan b = b ≡ 60
Spelled Solidus b = b ≡ 47
Spelled ExclamationMark b = b ≡ 33
Spelled (Letter l) b = is_ascii_alphabetic b ≡ true
Spelled c b = b ≡ b

pub record IsLoose (g : Scan) : Type 0 where
  pub less : less_kept g ≡ []
  pub shown : hides g ≡ false

pub record KeepsBytes (f g : Scan) (r s : Reference) (c : Class) (b : ℕ) (written : List ℕ) : Type 0 where
  pub bytes : as_it_stands r ++ (less_kept f ++ b ∷ []) ≡ written ++ (as_it_stands s ++ less_kept g)
  pub closed : bears g ≡ false → s ≡ Closed
  pub shown : hides g ≡ false
  pub before : hides f ≡ false
  pub kept : reference_kept (stays f g) f c b r ≡ s
  pub out : stays f g ≡ true → written ≡ []
  pub alone : stays f g ≡ false → c ≡ Ampersand → less_kept g ≡ []
  pub comment : in_style_comment g ≡ true → (in_style_comment f ≡ true) × (written ≡ [])
  pub letters : list_all is_ascii_alphabetic (end_letters g) ≡ true

pub record EscapesBytes (f g : Scan) (r s : Reference) (c : Class) (b : ℕ) (written : List ℕ) : Type 0 where
  pub more : List ℕ
  pub again : List ℕ
  pub less : less_kept f ≡ 60 ∷ more
  pub out : written ≡ as_it_stands r ++ (codes "&lt;" ++ again)
  pub bytes : again ++ (as_it_stands s ++ less_kept g) ≡ more ++ b ∷ []
  pub reference : s ≡ begin_reference c
  pub alone : c ≡ Ampersand → less_kept g ≡ []
  pub closed : bears g ≡ false → s ≡ Closed
  pub shown : hides g ≡ false
  pub before : hides f ≡ false
  pub comment : in_style_comment g ≡ false
  pub letters : end_letters g ≡ []

pub record OpensBytes (f g : Scan) (r s : Reference) (c : Class) (b : ℕ) (written : List ℕ) : Type 0 where
  pub more : List ℕ
  pub less : less_kept f ≡ 60 ∷ more
  pub out : written ≡ text_escaped r
  pub reference : s ≡ Closed
  pub loose : less_kept g ≡ []
  pub hidden : hides g ≡ true
  pub before : hides f ≡ false

pub record LeavesBytes (f g : Scan) (r s : Reference) (c : Class) (b : ℕ) (written : List ℕ) : Type 0 where
  pub out : written ≡ []
  pub reference : s ≡ Closed
  pub loose : less_kept g ≡ []
  pub ends : hides g ≡ false → c ≡ GreaterThan
  pub before : (hides f ≡ true) ⊎ (in_style_comment f ≡ true)

-- Of the element `style`: its comments, in which no byte is free.
pub record OpensStyleBytes (f g : Scan) (r s : Reference) (c : Class) (b : ℕ) (written : List ℕ) : Type 0 where
  pub more : List ℕ
  pub less : less_kept f ≡ more ++ codes "/"
  pub out : written ≡ more
  pub none : r ≡ Closed
  pub reference : s ≡ Closed
  pub loose : less_kept g ≡ []
  pub hidden : hides g ≡ true
  pub before : hides f ≡ false

pub record EndsStyleBytes (f g : Scan) (r s : Reference) (c : Class) (b : ℕ) (written : List ℕ) : Type 0 where
  pub byte : b ≡ 47
  pub out : written ≡ codes " "
  pub reference : s ≡ Closed
  pub loose : less_kept g ≡ []
  pub before : in_style_comment f ≡ true

pub record LeavesPendingBytes (f g : Scan) (r s : Reference) (c : Class) (b : ℕ) (written : List ℕ) : Type 0 where
  pub byte : b ≡ 60
  pub out : written ≡ []
  pub reference : s ≡ Closed
  pub less : less_kept g ≡ b ∷ []
  pub shown : hides g ≡ false
  pub letters : end_letters g ≡ []
  pub before : in_style_comment f ≡ true

pub record EndsInStyleBytes (f g : Scan) (r s : Reference) (c : Class) (b : ℕ) (written : List ℕ) : Type 0 where
  pub out : written ≡ codes " " ++ (less_kept f ++ b ∷ [])
  pub none : r ≡ Closed
  pub reference : s ≡ Closed
  pub loose : less_kept g ≡ []
  pub shown : hides g ≡ false
  pub comment : in_style_comment g ≡ false
  pub before : in_style_comment f ≡ true
  pub cut : hides f ≡ false

abbrev pub LawOf : Change → Scan → Scan → Reference → Reference → Class → ℕ → List ℕ → Type 0
LawOf change.Keeps f g r s c b out = KeepsBytes f g r s c b out
LawOf change.EscapesLess f g r s c b out = EscapesBytes f g r s c b out
LawOf change.OpensComment f g r s c b out = OpensBytes f g r s c b out
LawOf change.LeavesOut f g r s c b out = LeavesBytes f g r s c b out
LawOf change.OpensStyleComment f g r s c b out = OpensStyleBytes f g r s c b out
LawOf change.EndsStyleComment f g r s c b out = EndsStyleBytes f g r s c b out
LawOf change.LeavesPending f g r s c b out = LeavesPendingBytes f g r s c b out
LawOf change.EndsInStyleComment f g r s c b out = EndsInStyleBytes f g r s c b out
LawOf change.InScript f g r s c b out = Unit {0}

less-no-ampersand : LessThan ≡ Ampersand → ⊥
less-no-ampersand h = cc

abbrev pub Law : Scan → Scan → Reference → Reference → Class → ℕ → List ℕ → Type 0
Law f g r s c b out = LawOf (change_of f g) f g r s c b out

-- where nothing is pending back, no name is, and only what hides is in a comment
none-left : (xs ys : List ℕ) (a : ℕ) → xs ++ (a ∷ ys) ≡ [] → ⊥
none-left [] ys a h = cc
none-left (x ∷ xs) ys a h = cc

pub loose-letters : (g : Scan) → less_kept g ≡ [] → end_letters g ≡ []
loose-letters (InStyleElement s (PendingName letters)) h = absurd (none-left (solidus_kept s) (47 ∷ letters) 60 h)
loose-letters g h = refl

pub loose-comment : (g : Scan) → less_kept g ≡ [] → hides g ≡ false → in_style_comment g ≡ false
loose-comment (At (place.Style p)) h n = n
loose-comment (InStyleElement s Nothing) h n = n
loose-comment (InStyleElement s PendingLess) h n = absurd (none-left (solidus_kept s) [] 60 h)
loose-comment (InStyleElement s LessAtCut) h n = absurd (none-left (solidus_kept s) [] 60 h)
loose-comment (InStyleElement s (PendingName letters)) h n = absurd (none-left (solidus_kept s) (47 ∷ letters) 60 h)
loose-comment (InStyleElement s PendingBang) h n = absurd (none-left (solidus_kept s) (33 ∷ []) 60 h)
loose-comment (InStyleElement s PendingBangDash) h n = absurd (none-left (solidus_kept s) (33 ∷ 45 ∷ []) 60 h)
loose-comment (InStyleElement s (PendingOpening letters)) h n = absurd (none-left (solidus_kept s) letters 60 h)
loose-comment g h n = refl

pub no-name : (g : Scan) → less_kept g ≡ [] → list_all is_ascii_alphabetic (end_letters g) ≡ true
no-name g h = ap (list_all is_ascii_alphabetic) (loose-letters g h)

plain_law : (c : Class) (b : ℕ) → Spelled c b → b ∷ [] ≡ plain_bytes c b ++ as_it_stands (begin_reference c)
plain_law White b p = refl
plain_law ExclamationMark b p = refl
plain_law QuotationMark b p = refl
plain_law NumberSign b p = refl
plain_law Ampersand b p = rw p refl
plain_law Apostrophe b p = refl
plain_law HyphenMinus b p = refl
plain_law Solidus b p = refl
plain_law Digit b p = refl
plain_law Semicolon b p = refl
plain_law LessThan b p = refl
plain_law EqualsSign b p = refl
plain_law GreaterThan b p = refl
plain_law QuestionMark b p = refl
plain_law GraveAccent b p = refl
plain_law (Letter l) b p = refl
plain_law OtherByte b p = refl

turn_law : (t : ReferenceStep) (bytes : List ℕ) (c : Class) (b : ℕ) → Spelled c b → (38 ∷ bytes) ++ b ∷ [] ≡ turn_out t bytes c b ++ as_it_stands (reference_turned t bytes c b)
turn_law (Grows g) bytes c b p = refl
turn_law Closes bytes c b p = sym (append-nil ((38 ∷ bytes) ++ b ∷ []))
turn_law Breaks bytes c b p = ap (λ (xs : List ℕ). (38 ∷ bytes) ++ xs) (plain_law c b p) ∙ sym (append_assoc (38 ∷ bytes) (plain_bytes c b) (as_it_stands (begin_reference c)))

reference_law : (r : Reference) (c : Class) (b : ℕ) → Spelled c b → as_it_stands r ++ b ∷ [] ≡ reference_out r c b ++ as_it_stands (next_reference r c b)
reference_law Closed c b p = plain_law c b p
reference_law (Open f bytes) c b p = turn_law (turn c f) bytes c b p

-- in text with references
with_references : (f g : Scan) (r : Reference) (c : Class) (b : ℕ) → Spelled c b → less_kept f ≡ [] → less_kept g ≡ [] → (bears g ≡ false → next_reference r c b ≡ Closed) → hides g ≡ false → hides f ≡ false → stays f g ≡ false → scan_kept f c b r ≡ next_reference r c b → KeepsBytes f g r (next_reference r c b) c b (reference_out r c b)
with_references f g r c b p less_f less_g closed shown before moves kept = record {
  bytes = rw (less_f, less_g, append-nil (as_it_stands (next_reference r c b))) (reference_law r c b p);
  closed = closed;
  shown = shown;
  before = before;
  kept = rw moves kept;
  out = λ h. absurd (no (sym moves ∙ h));
  alone = λ h k. less_g;
  comment = λ h. absurd (no (sym (loose-comment g less_g shown) ∙ h));
  letters = no-name g less_g;
}

-- and without
without_references : (f g : Scan) (r : Reference) (c : Class) (b : ℕ) → less_kept f ≡ [] → IsLoose g → hides f ≡ false → stays f g ≡ false → scan_kept f c b r ≡ Closed → r ≡ Closed → KeepsBytes f g r Closed c b (b ∷ [])
without_references f g r c b less loose before moves kept closed = record {
  bytes = rw (less, loose.less, closed) refl;
  closed = λ h. refl;
  shown = loose.shown;
  before = before;
  kept = rw moves kept;
  out = λ h. absurd (no (sym moves ∙ h));
  alone = λ h k. loose.less;
  comment = λ h. absurd (no (sym (loose-comment g loose.less loose.shown) ∙ h));
  letters = no-name g loose.less;
}

in_text : (c : Class) (b : ℕ) (r : Reference) → Spelled c b → Law (At place.Text) (text_scan c) r (scan_open (At place.Text) c b r) c b (text_out c b r)
in_text White b r p = with_references (At place.Text) (At place.Text) r White b p refl refl (λ h. absurd (yes h)) refl refl refl refl
in_text ExclamationMark b r p = with_references (At place.Text) (At place.Text) r ExclamationMark b p refl refl (λ h. absurd (yes h)) refl refl refl refl
in_text QuotationMark b r p = with_references (At place.Text) (At place.Text) r QuotationMark b p refl refl (λ h. absurd (yes h)) refl refl refl refl
in_text NumberSign b r p = with_references (At place.Text) (At place.Text) r NumberSign b p refl refl (λ h. absurd (yes h)) refl refl refl refl
in_text Ampersand b r p = with_references (At place.Text) (At place.Text) r Ampersand b p refl refl (λ h. absurd (yes h)) refl refl refl refl
in_text Apostrophe b r p = with_references (At place.Text) (At place.Text) r Apostrophe b p refl refl (λ h. absurd (yes h)) refl refl refl refl
in_text HyphenMinus b r p = with_references (At place.Text) (At place.Text) r HyphenMinus b p refl refl (λ h. absurd (yes h)) refl refl refl refl
in_text Solidus b r p = with_references (At place.Text) (At place.Text) r Solidus b p refl refl (λ h. absurd (yes h)) refl refl refl refl
in_text Digit b r p = with_references (At place.Text) (At place.Text) r Digit b p refl refl (λ h. absurd (yes h)) refl refl refl refl
in_text Semicolon b r p = with_references (At place.Text) (At place.Text) r Semicolon b p refl refl (λ h. absurd (yes h)) refl refl refl refl
in_text LessThan b r p = record { bytes = rw p refl; closed = λ h. cc; shown = refl; before = refl; kept = refl; out = λ h. refl; alone = λ h k. absurd (yes h); comment = λ k. absurd (no k); letters = refl }
in_text EqualsSign b r p = with_references (At place.Text) (At place.Text) r EqualsSign b p refl refl (λ h. absurd (yes h)) refl refl refl refl
in_text GreaterThan b r p = with_references (At place.Text) (At place.Text) r GreaterThan b p refl refl (λ h. absurd (yes h)) refl refl refl refl
in_text QuestionMark b r p = with_references (At place.Text) (At place.Text) r QuestionMark b p refl refl (λ h. absurd (yes h)) refl refl refl refl
in_text GraveAccent b r p = with_references (At place.Text) (At place.Text) r GraveAccent b p refl refl (λ h. absurd (yes h)) refl refl refl refl
in_text (Letter l) b r p = with_references (At place.Text) (At place.Text) r (Letter l) b p refl refl (λ h. absurd (yes h)) refl refl refl refl
in_text OtherByte b r p = with_references (At place.Text) (At place.Text) r OtherByte b p refl refl (λ h. absurd (yes h)) refl refl refl refl

ends_at_less : (r : Reference) (b : ℕ) → next_reference r LessThan b ≡ Closed
ends_at_less Closed b = refl
ends_at_less (Open f bytes) b = refl

-- an element whose content is text with references
abbrev IsRcdata : Element → Type 0
IsRcdata element.DataBlock = ⊥
IsRcdata e = e ≡ e

in_rcdata : (e : Element) → IsRcdata e → (c : Class) (b : ℕ) (r : Reference) → Spelled c b → Law (At (place.Rcdata e)) (content_next c e) r (next_reference r c b) c b (loose_out c b r)
in_rcdata element.DataBlock i c b r p = absurd i
in_rcdata e i White b r p = with_references (At (place.Rcdata e)) (At (place.Rcdata e)) r White b p refl refl (λ h. absurd (yes h)) refl refl refl refl
in_rcdata e i ExclamationMark b r p = with_references (At (place.Rcdata e)) (At (place.Rcdata e)) r ExclamationMark b p refl refl (λ h. absurd (yes h)) refl refl refl refl
in_rcdata e i QuotationMark b r p = with_references (At (place.Rcdata e)) (At (place.Rcdata e)) r QuotationMark b p refl refl (λ h. absurd (yes h)) refl refl refl refl
in_rcdata e i NumberSign b r p = with_references (At (place.Rcdata e)) (At (place.Rcdata e)) r NumberSign b p refl refl (λ h. absurd (yes h)) refl refl refl refl
in_rcdata e i Ampersand b r p = with_references (At (place.Rcdata e)) (At (place.Rcdata e)) r Ampersand b p refl refl (λ h. absurd (yes h)) refl refl refl refl
in_rcdata e i Apostrophe b r p = with_references (At (place.Rcdata e)) (At (place.Rcdata e)) r Apostrophe b p refl refl (λ h. absurd (yes h)) refl refl refl refl
in_rcdata e i HyphenMinus b r p = with_references (At (place.Rcdata e)) (At (place.Rcdata e)) r HyphenMinus b p refl refl (λ h. absurd (yes h)) refl refl refl refl
in_rcdata e i Solidus b r p = with_references (At (place.Rcdata e)) (At (place.Rcdata e)) r Solidus b p refl refl (λ h. absurd (yes h)) refl refl refl refl
in_rcdata e i Digit b r p = with_references (At (place.Rcdata e)) (At (place.Rcdata e)) r Digit b p refl refl (λ h. absurd (yes h)) refl refl refl refl
in_rcdata e i Semicolon b r p = with_references (At (place.Rcdata e)) (At (place.Rcdata e)) r Semicolon b p refl refl (λ h. absurd (yes h)) refl refl refl refl
in_rcdata e i LessThan b r p = record { bytes = rw (ends_at_less r b, p) refl; closed = λ h. ends_at_less r b; shown = refl; before = refl; kept = refl; out = λ h. absurd (no h); alone = λ h k. cc; comment = λ k. absurd (no k); letters = refl }
in_rcdata e i EqualsSign b r p = with_references (At (place.Rcdata e)) (At (place.Rcdata e)) r EqualsSign b p refl refl (λ h. absurd (yes h)) refl refl refl refl
in_rcdata e i GreaterThan b r p = with_references (At (place.Rcdata e)) (At (place.Rcdata e)) r GreaterThan b p refl refl (λ h. absurd (yes h)) refl refl refl refl
in_rcdata e i QuestionMark b r p = with_references (At (place.Rcdata e)) (At (place.Rcdata e)) r QuestionMark b p refl refl (λ h. absurd (yes h)) refl refl refl refl
in_rcdata e i GraveAccent b r p = with_references (At (place.Rcdata e)) (At (place.Rcdata e)) r GraveAccent b p refl refl (λ h. absurd (yes h)) refl refl refl refl
in_rcdata e i (Letter l) b r p = with_references (At (place.Rcdata e)) (At (place.Rcdata e)) r (Letter l) b p refl refl (λ h. absurd (yes h)) refl refl refl refl
in_rcdata e i OtherByte b r p = with_references (At (place.Rcdata e)) (At (place.Rcdata e)) r OtherByte b p refl refl (λ h. absurd (yes h)) refl refl refl refl

ends_at_quotation : (r : Reference) (b : ℕ) → next_reference r QuotationMark b ≡ Closed
ends_at_quotation Closed b = refl
ends_at_quotation (Open f bytes) b = refl

ends_at_apostrophe : (r : Reference) (b : ℕ) → next_reference r Apostrophe b ≡ Closed
ends_at_apostrophe Closed b = refl
ends_at_apostrophe (Open f bytes) b = refl

ends_at_white : (r : Reference) (b : ℕ) → next_reference r White b ≡ Closed
ends_at_white Closed b = refl
ends_at_white (Open f bytes) b = refl

ends_at_greater : (r : Reference) (b : ℕ) → next_reference r GreaterThan b ≡ Closed
ends_at_greater Closed b = refl
ends_at_greater (Open f bytes) b = refl

loose-content : (t : TagOf) → IsLoose (content_scan t)
loose-content tag.End = record { less = refl; shown = refl }
loose-content (tag.Start element.Title) = record { less = refl; shown = refl }
loose-content (tag.Start element.Textarea) = record { less = refl; shown = refl }
loose-content (tag.Start element.Style) = record { less = refl; shown = refl }
loose-content (tag.Start element.Script) = record { less = refl; shown = refl }
loose-content (tag.Start element.DataBlock) = record { less = refl; shown = refl }
loose-content (tag.Start element.Other) = record { less = refl; shown = refl }

loose-value : (t : TagOf) (typed : Bool) (o : Option Kind) → IsLoose (value_scan t typed o)
loose-value t typed None = record { less = refl; shown = refl }
loose-value t typed (Some kind.ScriptType) = record { less = refl; shown = refl }
loose-value t typed (Some k) = record { less = refl; shown = refl }

-- A value is read by a scan state: text with references, in which no `<` is pending back.
record ReadsValue (f : Scan) : Type 0 where
  less : less_kept f ≡ []
  shown : hides f ≡ false
  moves : (g : Scan) → stays f g ≡ false
  kept : (c : Class) (b : ℕ) (r : Reference) → scan_kept f c b r ≡ next_reference r c b

-- and it goes on, or begins, in this one
record GoesOn (g : Scan) : Type 0 where
  less : less_kept g ≡ []
  bears : bears g ≡ true
  shown : hides g ≡ false

goes_on_url : (v : ValuePlace) (t : Triple) (z : Reference) → GoesOn (url_scan v t z)
goes_on_url v NoTriple Closed = record { less = refl; bears = refl; shown = refl }
goes_on_url v NoTriple (Open f bytes) = record { less = refl; bears = refl; shown = refl }
goes_on_url v AfterPercent z = record { less = refl; bears = refl; shown = refl }
goes_on_url v AfterDigit z = record { less = refl; bears = refl; shown = refl }

goes_on_rest : (starts : Bool) (v : ValuePlace) (s : StyleScan) → GoesOn (if starts then At (with_style v s) else InStyle v s Closed)
goes_on_rest true v s = record { less = refl; bears = refl; shown = refl }
goes_on_rest false v s = record { less = refl; bears = refl; shown = refl }

goes_on_style : (v : ValuePlace) (s : StyleScan) (z : Reference) → GoesOn (style_scan v s z)
goes_on_style v s Closed = goes_on_rest (is_style_start s) v s
goes_on_style v s (Open f bytes) = record { less = refl; bears = refl; shown = refl }

goes_on_fed : (x : Body) (v : ValuePlace) (q : Quotes) (t : Triple) (z : Reference) (c : Class) (b : ℕ) → GoesOn (value_fed v q x t z c b)
goes_on_fed (body.Url s) v q t z c b =
    goes_on_url (with_parts v q (feed_bytes parts_feeding s (undone_byte true z c b))) (triple_behind t (undone_byte true z c b)) (next_reference z c b)
goes_on_fed body.Plain v q t z c b = record { less = refl; bears = refl; shown = refl }
goes_on_fed body.NoHole v q t z c b = record { less = refl; bears = refl; shown = refl }
goes_on_fed (body.Js j) v q t z c b = record { less = refl; bears = refl; shown = refl }
goes_on_fed (body.Css p) v q t z c b =
    goes_on_style (empty_style_between v q) (feed_bytes style_feeding (style_scan_start p) (undone_byte true z c b)) (next_reference z c b)

goes_on : (f g : Scan) (r : Reference) (c : Class) (b : ℕ) → Spelled c b → ReadsValue f → GoesOn g → KeepsBytes f g r (next_reference r c b) c b (reference_out r c b)
goes_on f g r c b p i o = with_references f g r c b p i.less o.less (λ h. absurd (yes (sym o.bears ∙ h))) o.shown i.shown (i.moves g) (i.kept c b r)

ends_it : (f g : Scan) (r : Reference) (c : Class) (b : ℕ) → Spelled c b → ReadsValue f → IsLoose g → next_reference r c b ≡ Closed → KeepsBytes f g r (next_reference r c b) c b (reference_out r c b)
ends_it f g r c b p i o e = with_references f g r c b p i.less o.less (λ h. e) o.shown i.shown (i.moves g) (i.kept c b r)

-- The reference of the scan state is that of the path; which one is pending back in the page is said beside it.
in_double : (f : Scan) → ReadsValue f → (c : Class) (b : ℕ) (v : ValuePlace) (t : Triple) (z r : Reference) → Spelled c b
    → KeepsBytes f (quoted_next v quotes.Dq t z c b) r (next_reference r c b) c b (reference_out r c b)
in_double f i QuotationMark b v t z r p = ends_it f (quoted_next v quotes.Dq t z QuotationMark b) r QuotationMark b p i (record { less = refl; shown = refl }) (ends_at_quotation r b)
in_double f i c b v t z r p = goes_on f (value_fed v quotes.Dq v.body t z c b) r c b p i (goes_on_fed v.body v quotes.Dq t z c b)

in_single : (f : Scan) → ReadsValue f → (c : Class) (b : ℕ) (v : ValuePlace) (t : Triple) (z r : Reference) → Spelled c b
    → KeepsBytes f (quoted_next v quotes.Sq t z c b) r (next_reference r c b) c b (reference_out r c b)
in_single f i Apostrophe b v t z r p = ends_it f (quoted_next v quotes.Sq t z Apostrophe b) r Apostrophe b p i (record { less = refl; shown = refl }) (ends_at_apostrophe r b)
in_single f i c b v t z r p = goes_on f (value_fed v quotes.Sq v.body t z c b) r c b p i (goes_on_fed v.body v quotes.Sq t z c b)

in_bare_white : (f : Scan) → ReadsValue f → (uq : Bool) (b : ℕ) (v : ValuePlace) (r : Reference) → Spelled White b
    → KeepsBytes f (bare_white v uq) r (next_reference r White b) White b (reference_out r White b)
in_bare_white f i true b v r p = ends_it f (bare_white v true) r White b p i (record { less = refl; shown = refl }) (ends_at_white r b)
in_bare_white f i false b v r p = goes_on f (bare_white v false) r White b p i (record { less = refl; bears = refl; shown = refl })

in_bare : (f : Scan) → ReadsValue f → (c : Class) (b : ℕ) (v : ValuePlace) (uq : Bool) (t : Triple) (z r : Reference) → Spelled c b
    → KeepsBytes f (bare_next v uq t z c b) r (next_reference r c b) c b (reference_out r c b)
in_bare f i White b v uq t z r p = in_bare_white f i uq b v r p
in_bare f i QuotationMark b v uq t z r p = goes_on f (bare_next v uq t z QuotationMark b) r QuotationMark b p i (record { less = refl; bears = refl; shown = refl })
in_bare f i Apostrophe b v uq t z r p = goes_on f (bare_next v uq t z Apostrophe b) r Apostrophe b p i (record { less = refl; bears = refl; shown = refl })
in_bare f i GreaterThan b v uq t z r p = ends_it f (content_scan v.tag) r GreaterThan b p i (loose-content v.tag) (ends_at_greater r b)
in_bare f i c b v uq t z r p = goes_on f (value_fed v bare_begun v.body t z c b) r c b p i (goes_on_fed v.body v bare_begun t z c b)

in_quotes : (f : Scan) → ReadsValue f → (q : Quotes) (c : Class) (b : ℕ) (v : ValuePlace) (t : Triple) (z r : Reference) → Spelled c b
    → KeepsBytes f (quoted_next v q t z c b) r (next_reference r c b) c b (reference_out r c b)
in_quotes f i quotes.Dq c b v t z r p = in_double f i c b v t z r p
in_quotes f i quotes.Sq c b v t z r p = in_single f i c b v t z r p
in_quotes f i (quotes.Bare u) c b v t z r p = in_bare f i c b v u.uq t z r p

-- In a style, in which the text has begun.
style-fed : (v : ValuePlace) (s : StyleScan) (z : Reference) (c : Class) (b : ℕ) → GoesOn (style_fed v s z c b)
style-fed v s z c b = goes_on_style v (feed_bytes style_feeding s (undone_byte true z c b)) (next_reference z c b)

in_double_style : (f : Scan) → ReadsValue f → (c : Class) (b : ℕ) (v : ValuePlace) (g : Quotes → Scan) (r : Reference) → Spelled c b → GoesOn (g quotes.Dq)
    → KeepsBytes f (quotes_lead v quotes.Dq c g) r (next_reference r c b) c b (reference_out r c b)
in_double_style f i QuotationMark b v g r p o =
    ends_it f _ r QuotationMark b p i (record { less = refl; shown = refl }) (ends_at_quotation r b)
in_double_style f i c b v g r p o = goes_on f (g quotes.Dq) r c b p i o

in_single_style : (f : Scan) → ReadsValue f → (c : Class) (b : ℕ) (v : ValuePlace) (g : Quotes → Scan) (r : Reference) → Spelled c b → GoesOn (g quotes.Sq)
    → KeepsBytes f (quotes_lead v quotes.Sq c g) r (next_reference r c b) c b (reference_out r c b)
in_single_style f i Apostrophe b v g r p o =
    ends_it f _ r Apostrophe b p i (record { less = refl; shown = refl }) (ends_at_apostrophe r b)
in_single_style f i c b v g r p o = goes_on f (g quotes.Sq) r c b p i o

in_bare_style : (f : Scan) → ReadsValue f → (c : Class) (b : ℕ) (v : ValuePlace) (uq : Bool) (g : Scan) (r : Reference) → Spelled c b → GoesOn g
    → KeepsBytes f (bare_leads v uq c g) r (next_reference r c b) c b (reference_out r c b)
in_bare_style f i White b v uq g r p o = in_bare_white f i uq b v r p
in_bare_style f i QuotationMark b v uq g r p o = goes_on f _ r QuotationMark b p i (record { less = refl; bears = refl; shown = refl })
in_bare_style f i Apostrophe b v uq g r p o = goes_on f _ r Apostrophe b p i (record { less = refl; bears = refl; shown = refl })
in_bare_style f i GreaterThan b v uq g r p o = ends_it f (content_scan v.tag) r GreaterThan b p i (loose-content v.tag) (ends_at_greater r b)
in_bare_style f i c b v uq g r p o = goes_on f g r c b p i o

in_style : (q : Quotes) (f : Scan) → ReadsValue f → (c : Class) (b : ℕ) (v : ValuePlace) (s : StyleScan) (z r : Reference) → Spelled c b
    → KeepsBytes f (quotes_lead v q c (λ p. style_fed (value_between v p) s z c b)) r (next_reference r c b) c b (reference_out r c b)
in_style quotes.Dq f i c b v s z r p = in_double_style f i c b v (λ p. style_fed (value_between v p) s z c b) r p (style-fed (value_between v quotes.Dq) s z c b)
in_style quotes.Sq f i c b v s z r p = in_single_style f i c b v (λ p. style_fed (value_between v p) s z c b) r p (style-fed (value_between v quotes.Sq) s z c b)
in_style (quotes.Bare u) f i c b v s z r p = in_bare_style f i c b v u.uq (style_fed (value_between v bare_begun) s z c b) r p (style-fed (value_between v bare_begun) s z c b)

-- in a script, likewise
in_script : (q : Quotes) (f : Scan) → ReadsValue f → (c : Class) (b : ℕ) (v : ValuePlace) (n : ScriptScan) (z r : Reference) → Spelled c b
    → KeepsBytes f (quotes_lead v q c (λ p. script_fed_next (value_between v p) n z c b)) r (next_reference r c b) c b (reference_out r c b)
in_script quotes.Dq f i c b v n z r p =
    in_double_style f i c b v (λ p. script_fed_next (value_between v p) n z c b) r p (record { less = refl; bears = refl; shown = refl })
in_script quotes.Sq f i c b v n z r p =
    in_single_style f i c b v (λ p. script_fed_next (value_between v p) n z c b) r p (record { less = refl; bears = refl; shown = refl })
in_script (quotes.Bare u) f i c b v n z r p =
    in_bare_style f i c b v u.uq (script_fed_next (value_between v bare_begun) n z c b) r p (record { less = refl; bears = refl; shown = refl })

reads-script : (v : ValuePlace) (n : ScriptScan) (z : Reference) → ReadsValue (InScript v n z)
reads-script v n z = record { less = refl; shown = refl; moves = λ g. refl; kept = λ c b r. refl }

reads-style : (v : ValuePlace) (s : StyleScan) (z : Reference) → ReadsValue (InStyle v s z)
reads-style v s z = record { less = refl; shown = refl; moves = λ g. refl; kept = λ c b r. refl }

reads-place : (v : ValuePlace) → ReadsValue (At (place.Value v))
reads-place v = record { less = refl; shown = refl; moves = λ g. refl; kept = λ c b r. refl }

reads-url : (v : ValuePlace) (t : Triple) (z : Reference) → ReadsValue (InUrl v t z)
reads-url v t z = record { less = refl; shown = refl; moves = λ g. refl; kept = λ c b r. refl }

loose-tag : (c : Class) (t : TagPlace) (b : ℕ) → IsLoose (tag_next t c b)
loose-tag White t b = record { less = refl; shown = refl }
loose-tag ExclamationMark t b = record { less = refl; shown = refl }
loose-tag QuotationMark t b = record { less = refl; shown = refl }
loose-tag NumberSign t b = record { less = refl; shown = refl }
loose-tag Ampersand t b = record { less = refl; shown = refl }
loose-tag Apostrophe t b = record { less = refl; shown = refl }
loose-tag HyphenMinus t b = record { less = refl; shown = refl }
loose-tag Solidus t b = record { less = refl; shown = refl }
loose-tag Digit t b = record { less = refl; shown = refl }
loose-tag Semicolon t b = record { less = refl; shown = refl }
loose-tag LessThan t b = record { less = refl; shown = refl }
loose-tag EqualsSign t b = loose-value t.tag t.typed t.kind
loose-tag GreaterThan t b = loose-content t.tag
loose-tag QuestionMark t b = record { less = refl; shown = refl }
loose-tag GraveAccent t b = record { less = refl; shown = refl }
loose-tag (Letter l) t b = record { less = refl; shown = refl }
loose-tag OtherByte t b = record { less = refl; shown = refl }

loose-tag_name : (c : Class) (b : ℕ) (ends : Bool) (name : List ℕ) → IsLoose (tag_name_next c b ends name)
loose-tag_name White b ends name = record { less = refl; shown = refl }
loose-tag_name ExclamationMark b ends name = record { less = refl; shown = refl }
loose-tag_name QuotationMark b ends name = record { less = refl; shown = refl }
loose-tag_name NumberSign b ends name = record { less = refl; shown = refl }
loose-tag_name Ampersand b ends name = record { less = refl; shown = refl }
loose-tag_name Apostrophe b ends name = record { less = refl; shown = refl }
loose-tag_name HyphenMinus b ends name = record { less = refl; shown = refl }
loose-tag_name Solidus b ends name = record { less = refl; shown = refl }
loose-tag_name Digit b ends name = record { less = refl; shown = refl }
loose-tag_name Semicolon b ends name = record { less = refl; shown = refl }
loose-tag_name LessThan b ends name = record { less = refl; shown = refl }
loose-tag_name EqualsSign b ends name = record { less = refl; shown = refl }
loose-tag_name GreaterThan b ends name = loose-content (tag_of_name ends name)
loose-tag_name QuestionMark b ends name = record { less = refl; shown = refl }
loose-tag_name GraveAccent b ends name = record { less = refl; shown = refl }
loose-tag_name (Letter l) b ends name = record { less = refl; shown = refl }
loose-tag_name OtherByte b ends name = record { less = refl; shown = refl }

loose-attribute_name : (c : Class) (b : ℕ) (t : TagOf) (typed : Bool) (k : Kind) (name : List ℕ) → IsLoose (attribute_name_next c b t typed k name)
loose-attribute_name White b t typed k name = record { less = refl; shown = refl }
loose-attribute_name ExclamationMark b t typed k name = record { less = refl; shown = refl }
loose-attribute_name QuotationMark b t typed k name = record { less = refl; shown = refl }
loose-attribute_name NumberSign b t typed k name = record { less = refl; shown = refl }
loose-attribute_name Ampersand b t typed k name = record { less = refl; shown = refl }
loose-attribute_name Apostrophe b t typed k name = record { less = refl; shown = refl }
loose-attribute_name HyphenMinus b t typed k name = record { less = refl; shown = refl }
loose-attribute_name Solidus b t typed k name = record { less = refl; shown = refl }
loose-attribute_name Digit b t typed k name = record { less = refl; shown = refl }
loose-attribute_name Semicolon b t typed k name = record { less = refl; shown = refl }
loose-attribute_name LessThan b t typed k name = record { less = refl; shown = refl }
loose-attribute_name EqualsSign b t typed k name = loose-value t typed (Some k)
loose-attribute_name GreaterThan b t typed k name = loose-content t
loose-attribute_name QuestionMark b t typed k name = record { less = refl; shown = refl }
loose-attribute_name GraveAccent b t typed k name = record { less = refl; shown = refl }
loose-attribute_name (Letter l) b t typed k name = record { less = refl; shown = refl }
loose-attribute_name OtherByte b t typed k name = record { less = refl; shown = refl }

loose-doctype : (c : Class) → IsLoose (doctype_next c)
loose-doctype White = record { less = refl; shown = refl }
loose-doctype ExclamationMark = record { less = refl; shown = refl }
loose-doctype QuotationMark = record { less = refl; shown = refl }
loose-doctype NumberSign = record { less = refl; shown = refl }
loose-doctype Ampersand = record { less = refl; shown = refl }
loose-doctype Apostrophe = record { less = refl; shown = refl }
loose-doctype HyphenMinus = record { less = refl; shown = refl }
loose-doctype Solidus = record { less = refl; shown = refl }
loose-doctype Digit = record { less = refl; shown = refl }
loose-doctype Semicolon = record { less = refl; shown = refl }
loose-doctype LessThan = record { less = refl; shown = refl }
loose-doctype EqualsSign = record { less = refl; shown = refl }
loose-doctype GreaterThan = record { less = refl; shown = refl }
loose-doctype QuestionMark = record { less = refl; shown = refl }
loose-doctype GraveAccent = record { less = refl; shown = refl }
loose-doctype (Letter l) = record { less = refl; shown = refl }
loose-doctype OtherByte = record { less = refl; shown = refl }

again_text : (c : Class) (b : ℕ) → Spelled c b → text_out c b Closed ++ (as_it_stands (begin_reference c) ++ less_kept (text_scan c)) ≡ b ∷ []
again_text White b p = refl
again_text ExclamationMark b p = refl
again_text QuotationMark b p = refl
again_text NumberSign b p = refl
again_text Ampersand b p = rw p refl
again_text Apostrophe b p = refl
again_text HyphenMinus b p = refl
again_text Solidus b p = refl
again_text Digit b p = refl
again_text Semicolon b p = refl
again_text LessThan b p = rw p refl
again_text EqualsSign b p = refl
again_text GreaterThan b p = refl
again_text QuestionMark b p = refl
again_text GraveAccent b p = refl
again_text (Letter l) b p = refl
again_text OtherByte b p = refl

again_content : (e : Element) → IsRcdata e → (c : Class) (b : ℕ) → Spelled c b → loose_out c b Closed ++ (as_it_stands (begin_reference c) ++ less_kept (content_next c e)) ≡ b ∷ []
again_content element.DataBlock i c b p = absurd i
again_content e i White b p = refl
again_content e i ExclamationMark b p = refl
again_content e i QuotationMark b p = refl
again_content e i NumberSign b p = refl
again_content e i Ampersand b p = rw p refl
again_content e i Apostrophe b p = refl
again_content e i HyphenMinus b p = refl
again_content e i Solidus b p = refl
again_content e i Digit b p = refl
again_content e i Semicolon b p = refl
again_content e i LessThan b p = rw p refl
again_content e i EqualsSign b p = refl
again_content e i GreaterThan b p = refl
again_content e i QuestionMark b p = refl
again_content e i GraveAccent b p = refl
again_content e i (Letter l) b p = refl
again_content e i OtherByte b p = refl

shown-text : (c : Class) → hides (text_scan c) ≡ false
shown-text White = refl
shown-text ExclamationMark = refl
shown-text QuotationMark = refl
shown-text NumberSign = refl
shown-text Ampersand = refl
shown-text Apostrophe = refl
shown-text HyphenMinus = refl
shown-text Solidus = refl
shown-text Digit = refl
shown-text Semicolon = refl
shown-text LessThan = refl
shown-text EqualsSign = refl
shown-text GreaterThan = refl
shown-text QuestionMark = refl
shown-text GraveAccent = refl
shown-text (Letter l) = refl
shown-text OtherByte = refl

shown-content : (e : Element) → IsRcdata e → (c : Class) → hides (content_next c e) ≡ false
shown-content element.DataBlock i c = absurd i
shown-content e i White = refl
shown-content e i ExclamationMark = refl
shown-content e i QuotationMark = refl
shown-content e i NumberSign = refl
shown-content e i Ampersand = refl
shown-content e i Apostrophe = refl
shown-content e i HyphenMinus = refl
shown-content e i Solidus = refl
shown-content e i Digit = refl
shown-content e i Semicolon = refl
shown-content e i LessThan = refl
shown-content e i EqualsSign = refl
shown-content e i GreaterThan = refl
shown-content e i QuestionMark = refl
shown-content e i GraveAccent = refl
shown-content e i (Letter l) = refl
shown-content e i OtherByte = refl

alone-text : (c : Class) → c ≡ Ampersand → less_kept (text_scan c) ≡ []
alone-text White h = refl
alone-text ExclamationMark h = refl
alone-text QuotationMark h = refl
alone-text NumberSign h = refl
alone-text Ampersand h = refl
alone-text Apostrophe h = refl
alone-text HyphenMinus h = refl
alone-text Solidus h = refl
alone-text Digit h = refl
alone-text Semicolon h = refl
alone-text LessThan h = cc
alone-text EqualsSign h = refl
alone-text GreaterThan h = refl
alone-text QuestionMark h = refl
alone-text GraveAccent h = refl
alone-text (Letter l) h = refl
alone-text OtherByte h = refl

alone-content : (e : Element) → IsRcdata e → (c : Class) → c ≡ Ampersand → less_kept (content_next c e) ≡ []
alone-content element.DataBlock i c h = absurd i
alone-content e i White h = refl
alone-content e i ExclamationMark h = refl
alone-content e i QuotationMark h = refl
alone-content e i NumberSign h = refl
alone-content e i Ampersand h = refl
alone-content e i Apostrophe h = refl
alone-content e i HyphenMinus h = refl
alone-content e i Solidus h = refl
alone-content e i Digit h = refl
alone-content e i Semicolon h = refl
alone-content e i LessThan h = cc
alone-content e i EqualsSign h = refl
alone-content e i GreaterThan h = refl
alone-content e i QuestionMark h = refl
alone-content e i GraveAccent h = refl
alone-content e i (Letter l) h = refl
alone-content e i OtherByte h = refl

closed-text : (c : Class) → bears (text_scan c) ≡ false → begin_reference c ≡ Closed
closed-text White h = absurd (yes h)
closed-text ExclamationMark h = absurd (yes h)
closed-text QuotationMark h = absurd (yes h)
closed-text NumberSign h = absurd (yes h)
closed-text Ampersand h = absurd (yes h)
closed-text Apostrophe h = absurd (yes h)
closed-text HyphenMinus h = absurd (yes h)
closed-text Solidus h = absurd (yes h)
closed-text Digit h = absurd (yes h)
closed-text Semicolon h = absurd (yes h)
closed-text LessThan h = absurd (yes h)
closed-text EqualsSign h = absurd (yes h)
closed-text GreaterThan h = absurd (yes h)
closed-text QuestionMark h = absurd (yes h)
closed-text GraveAccent h = absurd (yes h)
closed-text (Letter l) h = absurd (yes h)
closed-text OtherByte h = absurd (yes h)

closed-content : (e : Element) → IsRcdata e → (c : Class) → bears (content_next c e) ≡ false → begin_reference c ≡ Closed
closed-content element.DataBlock i c h = absurd i
closed-content e i White h = absurd (yes h)
closed-content e i ExclamationMark h = absurd (yes h)
closed-content e i QuotationMark h = absurd (yes h)
closed-content e i NumberSign h = absurd (yes h)
closed-content e i Ampersand h = absurd (yes h)
closed-content e i Apostrophe h = absurd (yes h)
closed-content e i HyphenMinus h = absurd (yes h)
closed-content e i Solidus h = absurd (yes h)
closed-content e i Digit h = absurd (yes h)
closed-content e i Semicolon h = absurd (yes h)
closed-content e i LessThan h = refl
closed-content e i EqualsSign h = absurd (yes h)
closed-content e i GreaterThan h = absurd (yes h)
closed-content e i QuestionMark h = absurd (yes h)
closed-content e i GraveAccent h = absurd (yes h)
closed-content e i (Letter l) h = absurd (yes h)
closed-content e i OtherByte h = absurd (yes h)

plain-text : (c : Class) → (in_style_comment (text_scan c) ≡ false) × (end_letters (text_scan c) ≡ [])
plain-text LessThan = (refl, refl)
plain-text c = (refl, refl)

plain-content : (e : Element) → IsRcdata e → (c : Class) → (in_style_comment (content_next c e) ≡ false) × (end_letters (content_next c e) ≡ [])
plain-content element.DataBlock i c = absurd i
plain-content e i LessThan = (refl, refl)
plain-content e i c = (refl, refl)

escapes_text : (f : Scan) (r : Reference) (c : Class) (b : ℕ) (more out : List ℕ) → Spelled c b → less_kept f ≡ 60 ∷ more → hides f ≡ false → out ≡ (as_it_stands r ++ codes "&lt;") ++ (more ++ text_out c b Closed) → EscapesBytes f (text_scan c) r (begin_reference c) c b out
escapes_text f r c b more out p less before written = record {
  more = more;
  again = more ++ text_out c b Closed;
  less = less;
  out = written ∙ append_assoc (as_it_stands r) (codes "&lt;") (more ++ text_out c b Closed);
  bytes = append_assoc more (text_out c b Closed) (as_it_stands (begin_reference c) ++ less_kept (text_scan c)) ∙ ap (λ (xs : List ℕ). more ++ xs) (again_text c b p);
  reference = refl;
  alone = alone-text c;
  closed = closed-text c;
  shown = shown-text c;
  before = before;
  comment = (plain-text c).0;
  letters = (plain-text c).1;
}

escapes_content : (e : Element) → IsRcdata e → (f : Scan) (r : Reference) (c : Class) (b : ℕ) (more out : List ℕ) → r ≡ Closed → Spelled c b → less_kept f ≡ 60 ∷ more → hides f ≡ false → out ≡ codes "&lt;" ++ (more ++ loose_out c b Closed) → EscapesBytes f (content_next c e) r (begin_reference c) c b out
escapes_content e i f r c b more out none p less before written = record {
  more = more;
  again = more ++ loose_out c b Closed;
  less = less;
  out = rw none written;
  bytes = append_assoc more (loose_out c b Closed) (as_it_stands (begin_reference c) ++ less_kept (content_next c e)) ∙ ap (λ (xs : List ℕ). more ++ xs) (again_content e i c b p);
  reference = refl;
  alone = alone-content e i c;
  closed = closed-content e i c;
  shown = shown-content e i c;
  before = before;
  comment = (plain-content e i c).0;
  letters = (plain-content e i c).1;
}

after_less : (c : Class) (b : ℕ) (r : Reference) → Spelled c b → Law AfterLess (scan_next AfterLess c b) r (scan_open AfterLess c b r) c b (scan_out AfterLess c b r)
after_less White b r p = escapes_text AfterLess r White b [] ((as_it_stands r ++ codes "&lt;") ++ text_out White b Closed) p refl refl refl
after_less ExclamationMark b r p = record { bytes = rw p refl; closed = λ h. absurd (yes h); shown = refl; before = refl; kept = refl; out = λ h. refl; alone = λ h k. absurd (yes h); comment = λ k. absurd (no k); letters = refl }
after_less QuotationMark b r p = escapes_text AfterLess r QuotationMark b [] ((as_it_stands r ++ codes "&lt;") ++ text_out QuotationMark b Closed) p refl refl refl
after_less NumberSign b r p = escapes_text AfterLess r NumberSign b [] ((as_it_stands r ++ codes "&lt;") ++ text_out NumberSign b Closed) p refl refl refl
after_less Ampersand b r p = escapes_text AfterLess r Ampersand b [] ((as_it_stands r ++ codes "&lt;") ++ text_out Ampersand b Closed) p refl refl refl
after_less Apostrophe b r p = escapes_text AfterLess r Apostrophe b [] ((as_it_stands r ++ codes "&lt;") ++ text_out Apostrophe b Closed) p refl refl refl
after_less HyphenMinus b r p = escapes_text AfterLess r HyphenMinus b [] ((as_it_stands r ++ codes "&lt;") ++ text_out HyphenMinus b Closed) p refl refl refl
after_less Solidus b r p = record { bytes = rw p refl; closed = λ h. absurd (yes h); shown = refl; before = refl; kept = refl; out = λ h. refl; alone = λ h k. absurd (yes h); comment = λ k. absurd (no k); letters = refl }
after_less Digit b r p = escapes_text AfterLess r Digit b [] ((as_it_stands r ++ codes "&lt;") ++ text_out Digit b Closed) p refl refl refl
after_less Semicolon b r p = escapes_text AfterLess r Semicolon b [] ((as_it_stands r ++ codes "&lt;") ++ text_out Semicolon b Closed) p refl refl refl
after_less LessThan b r p = escapes_text AfterLess r LessThan b [] ((as_it_stands r ++ codes "&lt;") ++ text_out LessThan b Closed) p refl refl refl
after_less EqualsSign b r p = escapes_text AfterLess r EqualsSign b [] ((as_it_stands r ++ codes "&lt;") ++ text_out EqualsSign b Closed) p refl refl refl
after_less GreaterThan b r p = escapes_text AfterLess r GreaterThan b [] ((as_it_stands r ++ codes "&lt;") ++ text_out GreaterThan b Closed) p refl refl refl
after_less QuestionMark b r p = escapes_text AfterLess r QuestionMark b [] ((as_it_stands r ++ codes "&lt;") ++ text_out QuestionMark b Closed) p refl refl refl
after_less GraveAccent b r p = escapes_text AfterLess r GraveAccent b [] ((as_it_stands r ++ codes "&lt;") ++ text_out GraveAccent b Closed) p refl refl refl
after_less (Letter l) b r p = record { bytes = sym (append_assoc (as_it_stands r) (codes "<") (b ∷ [])) ∙ sym (append-nil ((as_it_stands r ++ codes "<") ++ b ∷ [])); closed = λ h. refl; shown = refl; before = refl; kept = refl; out = λ h. absurd (no h); alone = λ h k. refl; comment = λ k. absurd (no k); letters = refl }
after_less OtherByte b r p = escapes_text AfterLess r OtherByte b [] ((as_it_stands r ++ codes "&lt;") ++ text_out OtherByte b Closed) p refl refl refl

after_solidus : (c : Class) (b : ℕ) (r : Reference) → Spelled c b → Law AfterLessSolidus (scan_next AfterLessSolidus c b) r (scan_open AfterLessSolidus c b r) c b (scan_out AfterLessSolidus c b r)
after_solidus White b r p = escapes_text AfterLessSolidus r White b (codes "/") ((as_it_stands r ++ codes "&lt;") ++ (codes "/" ++ text_out White b Closed)) p refl refl refl
after_solidus ExclamationMark b r p = escapes_text AfterLessSolidus r ExclamationMark b (codes "/") ((as_it_stands r ++ codes "&lt;") ++ (codes "/" ++ text_out ExclamationMark b Closed)) p refl refl refl
after_solidus QuotationMark b r p = escapes_text AfterLessSolidus r QuotationMark b (codes "/") ((as_it_stands r ++ codes "&lt;") ++ (codes "/" ++ text_out QuotationMark b Closed)) p refl refl refl
after_solidus NumberSign b r p = escapes_text AfterLessSolidus r NumberSign b (codes "/") ((as_it_stands r ++ codes "&lt;") ++ (codes "/" ++ text_out NumberSign b Closed)) p refl refl refl
after_solidus Ampersand b r p = escapes_text AfterLessSolidus r Ampersand b (codes "/") ((as_it_stands r ++ codes "&lt;") ++ (codes "/" ++ text_out Ampersand b Closed)) p refl refl refl
after_solidus Apostrophe b r p = escapes_text AfterLessSolidus r Apostrophe b (codes "/") ((as_it_stands r ++ codes "&lt;") ++ (codes "/" ++ text_out Apostrophe b Closed)) p refl refl refl
after_solidus HyphenMinus b r p = escapes_text AfterLessSolidus r HyphenMinus b (codes "/") ((as_it_stands r ++ codes "&lt;") ++ (codes "/" ++ text_out HyphenMinus b Closed)) p refl refl refl
after_solidus Solidus b r p = escapes_text AfterLessSolidus r Solidus b (codes "/") ((as_it_stands r ++ codes "&lt;") ++ (codes "/" ++ text_out Solidus b Closed)) p refl refl refl
after_solidus Digit b r p = escapes_text AfterLessSolidus r Digit b (codes "/") ((as_it_stands r ++ codes "&lt;") ++ (codes "/" ++ text_out Digit b Closed)) p refl refl refl
after_solidus Semicolon b r p = escapes_text AfterLessSolidus r Semicolon b (codes "/") ((as_it_stands r ++ codes "&lt;") ++ (codes "/" ++ text_out Semicolon b Closed)) p refl refl refl
after_solidus LessThan b r p = escapes_text AfterLessSolidus r LessThan b (codes "/") ((as_it_stands r ++ codes "&lt;") ++ (codes "/" ++ text_out LessThan b Closed)) p refl refl refl
after_solidus EqualsSign b r p = escapes_text AfterLessSolidus r EqualsSign b (codes "/") ((as_it_stands r ++ codes "&lt;") ++ (codes "/" ++ text_out EqualsSign b Closed)) p refl refl refl
after_solidus GreaterThan b r p = escapes_text AfterLessSolidus r GreaterThan b (codes "/") ((as_it_stands r ++ codes "&lt;") ++ (codes "/" ++ text_out GreaterThan b Closed)) p refl refl refl
after_solidus QuestionMark b r p = escapes_text AfterLessSolidus r QuestionMark b (codes "/") ((as_it_stands r ++ codes "&lt;") ++ (codes "/" ++ text_out QuestionMark b Closed)) p refl refl refl
after_solidus GraveAccent b r p = escapes_text AfterLessSolidus r GraveAccent b (codes "/") ((as_it_stands r ++ codes "&lt;") ++ (codes "/" ++ text_out GraveAccent b Closed)) p refl refl refl
after_solidus (Letter l) b r p = record { bytes = sym (append_assoc (as_it_stands r) (codes "</") (b ∷ [])) ∙ sym (append-nil ((as_it_stands r ++ codes "</") ++ b ∷ [])); closed = λ h. refl; shown = refl; before = refl; kept = refl; out = λ h. absurd (no h); alone = λ h k. refl; comment = λ k. absurd (no k); letters = refl }
after_solidus OtherByte b r p = escapes_text AfterLessSolidus r OtherByte b (codes "/") ((as_it_stands r ++ codes "&lt;") ++ (codes "/" ++ text_out OtherByte b Closed)) p refl refl refl

opens_nothing : (c : Class) (b : ℕ) (bytes : List ℕ) (r : Reference) → Spelled c b → Law (InDeclaration bytes) (text_scan c) r (begin_reference c) c b (declaration_out OpensNothing c b r bytes)
opens_nothing White b bytes r p = escapes_text (InDeclaration bytes) r White b (codes "!" ++ bytes) (declaration_out OpensNothing White b r bytes) p refl refl refl
opens_nothing ExclamationMark b bytes r p = escapes_text (InDeclaration bytes) r ExclamationMark b (codes "!" ++ bytes) (declaration_out OpensNothing ExclamationMark b r bytes) p refl refl refl
opens_nothing QuotationMark b bytes r p = escapes_text (InDeclaration bytes) r QuotationMark b (codes "!" ++ bytes) (declaration_out OpensNothing QuotationMark b r bytes) p refl refl refl
opens_nothing NumberSign b bytes r p = escapes_text (InDeclaration bytes) r NumberSign b (codes "!" ++ bytes) (declaration_out OpensNothing NumberSign b r bytes) p refl refl refl
opens_nothing Ampersand b bytes r p = escapes_text (InDeclaration bytes) r Ampersand b (codes "!" ++ bytes) (declaration_out OpensNothing Ampersand b r bytes) p refl refl refl
opens_nothing Apostrophe b bytes r p = escapes_text (InDeclaration bytes) r Apostrophe b (codes "!" ++ bytes) (declaration_out OpensNothing Apostrophe b r bytes) p refl refl refl
opens_nothing HyphenMinus b bytes r p = escapes_text (InDeclaration bytes) r HyphenMinus b (codes "!" ++ bytes) (declaration_out OpensNothing HyphenMinus b r bytes) p refl refl refl
opens_nothing Solidus b bytes r p = escapes_text (InDeclaration bytes) r Solidus b (codes "!" ++ bytes) (declaration_out OpensNothing Solidus b r bytes) p refl refl refl
opens_nothing Digit b bytes r p = escapes_text (InDeclaration bytes) r Digit b (codes "!" ++ bytes) (declaration_out OpensNothing Digit b r bytes) p refl refl refl
opens_nothing Semicolon b bytes r p = escapes_text (InDeclaration bytes) r Semicolon b (codes "!" ++ bytes) (declaration_out OpensNothing Semicolon b r bytes) p refl refl refl
opens_nothing LessThan b bytes r p = escapes_text (InDeclaration bytes) r LessThan b (codes "!" ++ bytes) (declaration_out OpensNothing LessThan b r bytes) p refl refl refl
opens_nothing EqualsSign b bytes r p = escapes_text (InDeclaration bytes) r EqualsSign b (codes "!" ++ bytes) (declaration_out OpensNothing EqualsSign b r bytes) p refl refl refl
opens_nothing GreaterThan b bytes r p = escapes_text (InDeclaration bytes) r GreaterThan b (codes "!" ++ bytes) (declaration_out OpensNothing GreaterThan b r bytes) p refl refl refl
opens_nothing QuestionMark b bytes r p = escapes_text (InDeclaration bytes) r QuestionMark b (codes "!" ++ bytes) (declaration_out OpensNothing QuestionMark b r bytes) p refl refl refl
opens_nothing GraveAccent b bytes r p = escapes_text (InDeclaration bytes) r GraveAccent b (codes "!" ++ bytes) (declaration_out OpensNothing GraveAccent b r bytes) p refl refl refl
opens_nothing (Letter l) b bytes r p = escapes_text (InDeclaration bytes) r (Letter l) b (codes "!" ++ bytes) (declaration_out OpensNothing (Letter l) b r bytes) p refl refl refl
opens_nothing OtherByte b bytes r p = escapes_text (InDeclaration bytes) r OtherByte b (codes "!" ++ bytes) (declaration_out OpensNothing OtherByte b r bytes) p refl refl refl

in_declared : (d : Declaration) (c : Class) (b : ℕ) (bytes : List ℕ) (r : Reference) → Spelled c b → Law (InDeclaration bytes) (declaration_next d c b bytes) r (declaration_open d c r) c b (declaration_out d c b r bytes)
in_declared OpensComment c b bytes r p = record { more = codes "!" ++ bytes; less = refl; out = refl; reference = refl; loose = refl; hidden = refl; before = refl }
in_declared OpensDoctype c b bytes r p = record { bytes = sym (append_assoc (as_it_stands r) (codes "<!" ++ bytes) (b ∷ [])) ∙ sym (append-nil ((as_it_stands r ++ (codes "<!" ++ bytes)) ++ b ∷ [])); closed = λ h. refl; shown = refl; before = refl; kept = refl; out = λ h. absurd (no h); alone = λ h k. refl; comment = λ k. absurd (no k); letters = refl }
in_declared Undecided c b bytes r p = record { bytes = refl; closed = λ h. absurd (yes h); shown = refl; before = refl; kept = refl; out = λ h. refl; alone = λ h k. absurd (yes h); comment = λ k. absurd (no k); letters = refl }
in_declared OpensNothing c b bytes r p = opens_nothing c b bytes r p

after_content_less : (e : Element) → IsRcdata e → (c : Class) (b : ℕ) (r : Reference) → Spelled c b → r ≡ Closed → Law (InContentEnd e PendingLess) (scan_next (InContentEnd e PendingLess) c b) r (begin_reference c) c b (scan_out (InContentEnd e PendingLess) c b r)
after_content_less element.DataBlock i c b r p h = absurd i
after_content_less e i White b r p h = escapes_content e i (InContentEnd e PendingLess) r White b [] (codes "&lt;" ++ loose_out White b Closed) h p refl refl refl
after_content_less e i ExclamationMark b r p h = escapes_content e i (InContentEnd e PendingLess) r ExclamationMark b [] (codes "&lt;" ++ loose_out ExclamationMark b Closed) h p refl refl refl
after_content_less e i QuotationMark b r p h = escapes_content e i (InContentEnd e PendingLess) r QuotationMark b [] (codes "&lt;" ++ loose_out QuotationMark b Closed) h p refl refl refl
after_content_less e i NumberSign b r p h = escapes_content e i (InContentEnd e PendingLess) r NumberSign b [] (codes "&lt;" ++ loose_out NumberSign b Closed) h p refl refl refl
after_content_less e i Ampersand b r p h = escapes_content e i (InContentEnd e PendingLess) r Ampersand b [] (codes "&lt;" ++ loose_out Ampersand b Closed) h p refl refl refl
after_content_less e i Apostrophe b r p h = escapes_content e i (InContentEnd e PendingLess) r Apostrophe b [] (codes "&lt;" ++ loose_out Apostrophe b Closed) h p refl refl refl
after_content_less e i HyphenMinus b r p h = escapes_content e i (InContentEnd e PendingLess) r HyphenMinus b [] (codes "&lt;" ++ loose_out HyphenMinus b Closed) h p refl refl refl
after_content_less e i Solidus b r p h = record { bytes = rw (p, h) refl; closed = λ k. refl; shown = refl; before = refl; kept = refl; out = λ k. absurd (no k); alone = λ a k. cc; comment = λ k. absurd (no k); letters = refl }
after_content_less e i Digit b r p h = escapes_content e i (InContentEnd e PendingLess) r Digit b [] (codes "&lt;" ++ loose_out Digit b Closed) h p refl refl refl
after_content_less e i Semicolon b r p h = escapes_content e i (InContentEnd e PendingLess) r Semicolon b [] (codes "&lt;" ++ loose_out Semicolon b Closed) h p refl refl refl
after_content_less e i LessThan b r p h = escapes_content e i (InContentEnd e PendingLess) r LessThan b [] (codes "&lt;" ++ loose_out LessThan b Closed) h p refl refl refl
after_content_less e i EqualsSign b r p h = escapes_content e i (InContentEnd e PendingLess) r EqualsSign b [] (codes "&lt;" ++ loose_out EqualsSign b Closed) h p refl refl refl
after_content_less e i GreaterThan b r p h = escapes_content e i (InContentEnd e PendingLess) r GreaterThan b [] (codes "&lt;" ++ loose_out GreaterThan b Closed) h p refl refl refl
after_content_less e i QuestionMark b r p h = escapes_content e i (InContentEnd e PendingLess) r QuestionMark b [] (codes "&lt;" ++ loose_out QuestionMark b Closed) h p refl refl refl
after_content_less e i GraveAccent b r p h = escapes_content e i (InContentEnd e PendingLess) r GraveAccent b [] (codes "&lt;" ++ loose_out GraveAccent b Closed) h p refl refl refl
after_content_less e i (Letter l) b r p h = escapes_content e i (InContentEnd e PendingLess) r (Letter l) b [] (codes "&lt;" ++ loose_out (Letter l) b Closed) h p refl refl refl
after_content_less e i OtherByte b r p h = escapes_content e i (InContentEnd e PendingLess) r OtherByte b [] (codes "&lt;" ++ loose_out OtherByte b Closed) h p refl refl refl

in_end_name : (e : Element) → IsRcdata e → (grows whole : Bool) (c : Class) (b : ℕ) (letters : List ℕ) (r : Reference) → Spelled c b → r ≡ Closed → Law (InContentEnd e (PendingName letters)) (end_name_next grows whole c b e letters) r (begin_reference c) c b (end_name_out grows whole c b letters)
in_end_name element.DataBlock i grows whole c b letters r p h = absurd i
in_end_name e i true true White b letters r p h = record { bytes = rw (h, append-nil (letters ++ b ∷ [])) refl; closed = λ k. refl; shown = refl; before = refl; kept = refl; out = λ k. absurd (no k); alone = λ a k. cc; comment = λ k. absurd (no k); letters = refl }
in_end_name e i true true ExclamationMark b letters r p h = escapes_content e i (InContentEnd e (PendingName letters)) r ExclamationMark b (codes "/" ++ letters) (codes "&lt;" ++ ((codes "/" ++ letters) ++ loose_out ExclamationMark b Closed)) h p refl refl refl
in_end_name e i true true QuotationMark b letters r p h = escapes_content e i (InContentEnd e (PendingName letters)) r QuotationMark b (codes "/" ++ letters) (codes "&lt;" ++ ((codes "/" ++ letters) ++ loose_out QuotationMark b Closed)) h p refl refl refl
in_end_name e i true true NumberSign b letters r p h = escapes_content e i (InContentEnd e (PendingName letters)) r NumberSign b (codes "/" ++ letters) (codes "&lt;" ++ ((codes "/" ++ letters) ++ loose_out NumberSign b Closed)) h p refl refl refl
in_end_name e i true true Ampersand b letters r p h = escapes_content e i (InContentEnd e (PendingName letters)) r Ampersand b (codes "/" ++ letters) (codes "&lt;" ++ ((codes "/" ++ letters) ++ loose_out Ampersand b Closed)) h p refl refl refl
in_end_name e i true true Apostrophe b letters r p h = escapes_content e i (InContentEnd e (PendingName letters)) r Apostrophe b (codes "/" ++ letters) (codes "&lt;" ++ ((codes "/" ++ letters) ++ loose_out Apostrophe b Closed)) h p refl refl refl
in_end_name e i true true HyphenMinus b letters r p h = escapes_content e i (InContentEnd e (PendingName letters)) r HyphenMinus b (codes "/" ++ letters) (codes "&lt;" ++ ((codes "/" ++ letters) ++ loose_out HyphenMinus b Closed)) h p refl refl refl
in_end_name e i true true Solidus b letters r p h = record { bytes = rw (h, append-nil (letters ++ b ∷ [])) refl; closed = λ k. refl; shown = refl; before = refl; kept = refl; out = λ k. absurd (no k); alone = λ a k. cc; comment = λ k. absurd (no k); letters = refl }
in_end_name e i true true Digit b letters r p h = escapes_content e i (InContentEnd e (PendingName letters)) r Digit b (codes "/" ++ letters) (codes "&lt;" ++ ((codes "/" ++ letters) ++ loose_out Digit b Closed)) h p refl refl refl
in_end_name e i true true Semicolon b letters r p h = escapes_content e i (InContentEnd e (PendingName letters)) r Semicolon b (codes "/" ++ letters) (codes "&lt;" ++ ((codes "/" ++ letters) ++ loose_out Semicolon b Closed)) h p refl refl refl
in_end_name e i true true LessThan b letters r p h = escapes_content e i (InContentEnd e (PendingName letters)) r LessThan b (codes "/" ++ letters) (codes "&lt;" ++ ((codes "/" ++ letters) ++ loose_out LessThan b Closed)) h p refl refl refl
in_end_name e i true true EqualsSign b letters r p h = escapes_content e i (InContentEnd e (PendingName letters)) r EqualsSign b (codes "/" ++ letters) (codes "&lt;" ++ ((codes "/" ++ letters) ++ loose_out EqualsSign b Closed)) h p refl refl refl
in_end_name e i true true GreaterThan b letters r p h = record { bytes = rw (h, append-nil (letters ++ b ∷ [])) refl; closed = λ k. refl; shown = refl; before = refl; kept = refl; out = λ k. absurd (no k); alone = λ a k. cc; comment = λ k. absurd (no k); letters = refl }
in_end_name e i true true QuestionMark b letters r p h = escapes_content e i (InContentEnd e (PendingName letters)) r QuestionMark b (codes "/" ++ letters) (codes "&lt;" ++ ((codes "/" ++ letters) ++ loose_out QuestionMark b Closed)) h p refl refl refl
in_end_name e i true true GraveAccent b letters r p h = escapes_content e i (InContentEnd e (PendingName letters)) r GraveAccent b (codes "/" ++ letters) (codes "&lt;" ++ ((codes "/" ++ letters) ++ loose_out GraveAccent b Closed)) h p refl refl refl
in_end_name e i true true (Letter l) b letters r p h = record { bytes = rw h refl; closed = λ k. refl; shown = refl; before = refl; kept = refl; out = λ k. absurd (no k); alone = λ a k. cc; comment = λ k. absurd (no k); letters = refl }
in_end_name e i true true OtherByte b letters r p h = escapes_content e i (InContentEnd e (PendingName letters)) r OtherByte b (codes "/" ++ letters) (codes "&lt;" ++ ((codes "/" ++ letters) ++ loose_out OtherByte b Closed)) h p refl refl refl
in_end_name e i true false White b letters r p h = escapes_content e i (InContentEnd e (PendingName letters)) r White b (codes "/" ++ letters) (codes "&lt;" ++ ((codes "/" ++ letters) ++ loose_out White b Closed)) h p refl refl refl
in_end_name e i true false ExclamationMark b letters r p h = escapes_content e i (InContentEnd e (PendingName letters)) r ExclamationMark b (codes "/" ++ letters) (codes "&lt;" ++ ((codes "/" ++ letters) ++ loose_out ExclamationMark b Closed)) h p refl refl refl
in_end_name e i true false QuotationMark b letters r p h = escapes_content e i (InContentEnd e (PendingName letters)) r QuotationMark b (codes "/" ++ letters) (codes "&lt;" ++ ((codes "/" ++ letters) ++ loose_out QuotationMark b Closed)) h p refl refl refl
in_end_name e i true false NumberSign b letters r p h = escapes_content e i (InContentEnd e (PendingName letters)) r NumberSign b (codes "/" ++ letters) (codes "&lt;" ++ ((codes "/" ++ letters) ++ loose_out NumberSign b Closed)) h p refl refl refl
in_end_name e i true false Ampersand b letters r p h = escapes_content e i (InContentEnd e (PendingName letters)) r Ampersand b (codes "/" ++ letters) (codes "&lt;" ++ ((codes "/" ++ letters) ++ loose_out Ampersand b Closed)) h p refl refl refl
in_end_name e i true false Apostrophe b letters r p h = escapes_content e i (InContentEnd e (PendingName letters)) r Apostrophe b (codes "/" ++ letters) (codes "&lt;" ++ ((codes "/" ++ letters) ++ loose_out Apostrophe b Closed)) h p refl refl refl
in_end_name e i true false HyphenMinus b letters r p h = escapes_content e i (InContentEnd e (PendingName letters)) r HyphenMinus b (codes "/" ++ letters) (codes "&lt;" ++ ((codes "/" ++ letters) ++ loose_out HyphenMinus b Closed)) h p refl refl refl
in_end_name e i true false Solidus b letters r p h = escapes_content e i (InContentEnd e (PendingName letters)) r Solidus b (codes "/" ++ letters) (codes "&lt;" ++ ((codes "/" ++ letters) ++ loose_out Solidus b Closed)) h p refl refl refl
in_end_name e i true false Digit b letters r p h = escapes_content e i (InContentEnd e (PendingName letters)) r Digit b (codes "/" ++ letters) (codes "&lt;" ++ ((codes "/" ++ letters) ++ loose_out Digit b Closed)) h p refl refl refl
in_end_name e i true false Semicolon b letters r p h = escapes_content e i (InContentEnd e (PendingName letters)) r Semicolon b (codes "/" ++ letters) (codes "&lt;" ++ ((codes "/" ++ letters) ++ loose_out Semicolon b Closed)) h p refl refl refl
in_end_name e i true false LessThan b letters r p h = escapes_content e i (InContentEnd e (PendingName letters)) r LessThan b (codes "/" ++ letters) (codes "&lt;" ++ ((codes "/" ++ letters) ++ loose_out LessThan b Closed)) h p refl refl refl
in_end_name e i true false EqualsSign b letters r p h = escapes_content e i (InContentEnd e (PendingName letters)) r EqualsSign b (codes "/" ++ letters) (codes "&lt;" ++ ((codes "/" ++ letters) ++ loose_out EqualsSign b Closed)) h p refl refl refl
in_end_name e i true false GreaterThan b letters r p h = escapes_content e i (InContentEnd e (PendingName letters)) r GreaterThan b (codes "/" ++ letters) (codes "&lt;" ++ ((codes "/" ++ letters) ++ loose_out GreaterThan b Closed)) h p refl refl refl
in_end_name e i true false QuestionMark b letters r p h = escapes_content e i (InContentEnd e (PendingName letters)) r QuestionMark b (codes "/" ++ letters) (codes "&lt;" ++ ((codes "/" ++ letters) ++ loose_out QuestionMark b Closed)) h p refl refl refl
in_end_name e i true false GraveAccent b letters r p h = escapes_content e i (InContentEnd e (PendingName letters)) r GraveAccent b (codes "/" ++ letters) (codes "&lt;" ++ ((codes "/" ++ letters) ++ loose_out GraveAccent b Closed)) h p refl refl refl
in_end_name e i true false (Letter l) b letters r p h = record { bytes = rw h refl; closed = λ k. refl; shown = refl; before = refl; kept = refl; out = λ k. absurd (no k); alone = λ a k. cc; comment = λ k. absurd (no k); letters = refl }
in_end_name e i true false OtherByte b letters r p h = escapes_content e i (InContentEnd e (PendingName letters)) r OtherByte b (codes "/" ++ letters) (codes "&lt;" ++ ((codes "/" ++ letters) ++ loose_out OtherByte b Closed)) h p refl refl refl
in_end_name e i false true White b letters r p h = record { bytes = rw (h, append-nil (letters ++ b ∷ [])) refl; closed = λ k. refl; shown = refl; before = refl; kept = refl; out = λ k. absurd (no k); alone = λ a k. cc; comment = λ k. absurd (no k); letters = refl }
in_end_name e i false true ExclamationMark b letters r p h = escapes_content e i (InContentEnd e (PendingName letters)) r ExclamationMark b (codes "/" ++ letters) (codes "&lt;" ++ ((codes "/" ++ letters) ++ loose_out ExclamationMark b Closed)) h p refl refl refl
in_end_name e i false true QuotationMark b letters r p h = escapes_content e i (InContentEnd e (PendingName letters)) r QuotationMark b (codes "/" ++ letters) (codes "&lt;" ++ ((codes "/" ++ letters) ++ loose_out QuotationMark b Closed)) h p refl refl refl
in_end_name e i false true NumberSign b letters r p h = escapes_content e i (InContentEnd e (PendingName letters)) r NumberSign b (codes "/" ++ letters) (codes "&lt;" ++ ((codes "/" ++ letters) ++ loose_out NumberSign b Closed)) h p refl refl refl
in_end_name e i false true Ampersand b letters r p h = escapes_content e i (InContentEnd e (PendingName letters)) r Ampersand b (codes "/" ++ letters) (codes "&lt;" ++ ((codes "/" ++ letters) ++ loose_out Ampersand b Closed)) h p refl refl refl
in_end_name e i false true Apostrophe b letters r p h = escapes_content e i (InContentEnd e (PendingName letters)) r Apostrophe b (codes "/" ++ letters) (codes "&lt;" ++ ((codes "/" ++ letters) ++ loose_out Apostrophe b Closed)) h p refl refl refl
in_end_name e i false true HyphenMinus b letters r p h = escapes_content e i (InContentEnd e (PendingName letters)) r HyphenMinus b (codes "/" ++ letters) (codes "&lt;" ++ ((codes "/" ++ letters) ++ loose_out HyphenMinus b Closed)) h p refl refl refl
in_end_name e i false true Solidus b letters r p h = record { bytes = rw (h, append-nil (letters ++ b ∷ [])) refl; closed = λ k. refl; shown = refl; before = refl; kept = refl; out = λ k. absurd (no k); alone = λ a k. cc; comment = λ k. absurd (no k); letters = refl }
in_end_name e i false true Digit b letters r p h = escapes_content e i (InContentEnd e (PendingName letters)) r Digit b (codes "/" ++ letters) (codes "&lt;" ++ ((codes "/" ++ letters) ++ loose_out Digit b Closed)) h p refl refl refl
in_end_name e i false true Semicolon b letters r p h = escapes_content e i (InContentEnd e (PendingName letters)) r Semicolon b (codes "/" ++ letters) (codes "&lt;" ++ ((codes "/" ++ letters) ++ loose_out Semicolon b Closed)) h p refl refl refl
in_end_name e i false true LessThan b letters r p h = escapes_content e i (InContentEnd e (PendingName letters)) r LessThan b (codes "/" ++ letters) (codes "&lt;" ++ ((codes "/" ++ letters) ++ loose_out LessThan b Closed)) h p refl refl refl
in_end_name e i false true EqualsSign b letters r p h = escapes_content e i (InContentEnd e (PendingName letters)) r EqualsSign b (codes "/" ++ letters) (codes "&lt;" ++ ((codes "/" ++ letters) ++ loose_out EqualsSign b Closed)) h p refl refl refl
in_end_name e i false true GreaterThan b letters r p h = record { bytes = rw (h, append-nil (letters ++ b ∷ [])) refl; closed = λ k. refl; shown = refl; before = refl; kept = refl; out = λ k. absurd (no k); alone = λ a k. cc; comment = λ k. absurd (no k); letters = refl }
in_end_name e i false true QuestionMark b letters r p h = escapes_content e i (InContentEnd e (PendingName letters)) r QuestionMark b (codes "/" ++ letters) (codes "&lt;" ++ ((codes "/" ++ letters) ++ loose_out QuestionMark b Closed)) h p refl refl refl
in_end_name e i false true GraveAccent b letters r p h = escapes_content e i (InContentEnd e (PendingName letters)) r GraveAccent b (codes "/" ++ letters) (codes "&lt;" ++ ((codes "/" ++ letters) ++ loose_out GraveAccent b Closed)) h p refl refl refl
in_end_name e i false true (Letter l) b letters r p h = escapes_content e i (InContentEnd e (PendingName letters)) r (Letter l) b (codes "/" ++ letters) (codes "&lt;" ++ ((codes "/" ++ letters) ++ loose_out (Letter l) b Closed)) h p refl refl refl
in_end_name e i false true OtherByte b letters r p h = escapes_content e i (InContentEnd e (PendingName letters)) r OtherByte b (codes "/" ++ letters) (codes "&lt;" ++ ((codes "/" ++ letters) ++ loose_out OtherByte b Closed)) h p refl refl refl
in_end_name e i false false White b letters r p h = escapes_content e i (InContentEnd e (PendingName letters)) r White b (codes "/" ++ letters) (codes "&lt;" ++ ((codes "/" ++ letters) ++ loose_out White b Closed)) h p refl refl refl
in_end_name e i false false ExclamationMark b letters r p h = escapes_content e i (InContentEnd e (PendingName letters)) r ExclamationMark b (codes "/" ++ letters) (codes "&lt;" ++ ((codes "/" ++ letters) ++ loose_out ExclamationMark b Closed)) h p refl refl refl
in_end_name e i false false QuotationMark b letters r p h = escapes_content e i (InContentEnd e (PendingName letters)) r QuotationMark b (codes "/" ++ letters) (codes "&lt;" ++ ((codes "/" ++ letters) ++ loose_out QuotationMark b Closed)) h p refl refl refl
in_end_name e i false false NumberSign b letters r p h = escapes_content e i (InContentEnd e (PendingName letters)) r NumberSign b (codes "/" ++ letters) (codes "&lt;" ++ ((codes "/" ++ letters) ++ loose_out NumberSign b Closed)) h p refl refl refl
in_end_name e i false false Ampersand b letters r p h = escapes_content e i (InContentEnd e (PendingName letters)) r Ampersand b (codes "/" ++ letters) (codes "&lt;" ++ ((codes "/" ++ letters) ++ loose_out Ampersand b Closed)) h p refl refl refl
in_end_name e i false false Apostrophe b letters r p h = escapes_content e i (InContentEnd e (PendingName letters)) r Apostrophe b (codes "/" ++ letters) (codes "&lt;" ++ ((codes "/" ++ letters) ++ loose_out Apostrophe b Closed)) h p refl refl refl
in_end_name e i false false HyphenMinus b letters r p h = escapes_content e i (InContentEnd e (PendingName letters)) r HyphenMinus b (codes "/" ++ letters) (codes "&lt;" ++ ((codes "/" ++ letters) ++ loose_out HyphenMinus b Closed)) h p refl refl refl
in_end_name e i false false Solidus b letters r p h = escapes_content e i (InContentEnd e (PendingName letters)) r Solidus b (codes "/" ++ letters) (codes "&lt;" ++ ((codes "/" ++ letters) ++ loose_out Solidus b Closed)) h p refl refl refl
in_end_name e i false false Digit b letters r p h = escapes_content e i (InContentEnd e (PendingName letters)) r Digit b (codes "/" ++ letters) (codes "&lt;" ++ ((codes "/" ++ letters) ++ loose_out Digit b Closed)) h p refl refl refl
in_end_name e i false false Semicolon b letters r p h = escapes_content e i (InContentEnd e (PendingName letters)) r Semicolon b (codes "/" ++ letters) (codes "&lt;" ++ ((codes "/" ++ letters) ++ loose_out Semicolon b Closed)) h p refl refl refl
in_end_name e i false false LessThan b letters r p h = escapes_content e i (InContentEnd e (PendingName letters)) r LessThan b (codes "/" ++ letters) (codes "&lt;" ++ ((codes "/" ++ letters) ++ loose_out LessThan b Closed)) h p refl refl refl
in_end_name e i false false EqualsSign b letters r p h = escapes_content e i (InContentEnd e (PendingName letters)) r EqualsSign b (codes "/" ++ letters) (codes "&lt;" ++ ((codes "/" ++ letters) ++ loose_out EqualsSign b Closed)) h p refl refl refl
in_end_name e i false false GreaterThan b letters r p h = escapes_content e i (InContentEnd e (PendingName letters)) r GreaterThan b (codes "/" ++ letters) (codes "&lt;" ++ ((codes "/" ++ letters) ++ loose_out GreaterThan b Closed)) h p refl refl refl
in_end_name e i false false QuestionMark b letters r p h = escapes_content e i (InContentEnd e (PendingName letters)) r QuestionMark b (codes "/" ++ letters) (codes "&lt;" ++ ((codes "/" ++ letters) ++ loose_out QuestionMark b Closed)) h p refl refl refl
in_end_name e i false false GraveAccent b letters r p h = escapes_content e i (InContentEnd e (PendingName letters)) r GraveAccent b (codes "/" ++ letters) (codes "&lt;" ++ ((codes "/" ++ letters) ++ loose_out GraveAccent b Closed)) h p refl refl refl
in_end_name e i false false (Letter l) b letters r p h = escapes_content e i (InContentEnd e (PendingName letters)) r (Letter l) b (codes "/" ++ letters) (codes "&lt;" ++ ((codes "/" ++ letters) ++ loose_out (Letter l) b Closed)) h p refl refl refl
in_end_name e i false false OtherByte b letters r p h = escapes_content e i (InContentEnd e (PendingName letters)) r OtherByte b (codes "/" ++ letters) (codes "&lt;" ++ ((codes "/" ++ letters) ++ loose_out OtherByte b Closed)) h p refl refl refl

hidden-comment : (s : CommentState) → hides (comment_scan s) ≡ true
hidden-comment Started = refl
hidden-comment StartedDash = refl
hidden-comment Inside = refl
hidden-comment Dash = refl
hidden-comment DashDash = refl
hidden-comment Bang = refl
hidden-comment Broken = refl

less-comment : (s : CommentState) → less_kept (comment_scan s) ≡ []
less-comment Started = refl
less-comment StartedDash = refl
less-comment Inside = refl
less-comment Dash = refl
less-comment DashDash = refl
less-comment Bang = refl
less-comment Broken = refl

less-closed : (x : Bool) → less_kept (comment_closed x) ≡ []
less-closed true = refl
less-closed false = refl

leaves : (c : Class) (s : CommentState) (f : Scan) (r : Reference) (b : ℕ) → hides f ≡ true → LeavesBytes f (comment_next c s) r Closed c b []
leaves White s f r b before = record { out = refl; reference = refl; loose = less-comment (next_comment s White); ends = λ h. absurd (no (sym h ∙ hidden-comment (next_comment s White))); before = inl before }
leaves ExclamationMark s f r b before = record { out = refl; reference = refl; loose = less-comment (next_comment s ExclamationMark); ends = λ h. absurd (no (sym h ∙ hidden-comment (next_comment s ExclamationMark))); before = inl before }
leaves QuotationMark s f r b before = record { out = refl; reference = refl; loose = less-comment (next_comment s QuotationMark); ends = λ h. absurd (no (sym h ∙ hidden-comment (next_comment s QuotationMark))); before = inl before }
leaves NumberSign s f r b before = record { out = refl; reference = refl; loose = less-comment (next_comment s NumberSign); ends = λ h. absurd (no (sym h ∙ hidden-comment (next_comment s NumberSign))); before = inl before }
leaves Ampersand s f r b before = record { out = refl; reference = refl; loose = less-comment (next_comment s Ampersand); ends = λ h. absurd (no (sym h ∙ hidden-comment (next_comment s Ampersand))); before = inl before }
leaves Apostrophe s f r b before = record { out = refl; reference = refl; loose = less-comment (next_comment s Apostrophe); ends = λ h. absurd (no (sym h ∙ hidden-comment (next_comment s Apostrophe))); before = inl before }
leaves HyphenMinus s f r b before = record { out = refl; reference = refl; loose = less-comment (next_comment s HyphenMinus); ends = λ h. absurd (no (sym h ∙ hidden-comment (next_comment s HyphenMinus))); before = inl before }
leaves Solidus s f r b before = record { out = refl; reference = refl; loose = less-comment (next_comment s Solidus); ends = λ h. absurd (no (sym h ∙ hidden-comment (next_comment s Solidus))); before = inl before }
leaves Digit s f r b before = record { out = refl; reference = refl; loose = less-comment (next_comment s Digit); ends = λ h. absurd (no (sym h ∙ hidden-comment (next_comment s Digit))); before = inl before }
leaves Semicolon s f r b before = record { out = refl; reference = refl; loose = less-comment (next_comment s Semicolon); ends = λ h. absurd (no (sym h ∙ hidden-comment (next_comment s Semicolon))); before = inl before }
leaves LessThan s f r b before = record { out = refl; reference = refl; loose = less-comment (next_comment s LessThan); ends = λ h. absurd (no (sym h ∙ hidden-comment (next_comment s LessThan))); before = inl before }
leaves EqualsSign s f r b before = record { out = refl; reference = refl; loose = less-comment (next_comment s EqualsSign); ends = λ h. absurd (no (sym h ∙ hidden-comment (next_comment s EqualsSign))); before = inl before }
leaves GreaterThan s f r b before = record { out = refl; reference = refl; loose = less-closed (closes_comment s); ends = λ h. refl; before = inl before }
leaves QuestionMark s f r b before = record { out = refl; reference = refl; loose = less-comment (next_comment s QuestionMark); ends = λ h. absurd (no (sym h ∙ hidden-comment (next_comment s QuestionMark))); before = inl before }
leaves GraveAccent s f r b before = record { out = refl; reference = refl; loose = less-comment (next_comment s GraveAccent); ends = λ h. absurd (no (sym h ∙ hidden-comment (next_comment s GraveAccent))); before = inl before }
leaves (Letter l) s f r b before = record { out = refl; reference = refl; loose = less-comment (next_comment s (Letter l)); ends = λ h. absurd (no (sym h ∙ hidden-comment (next_comment s (Letter l)))); before = inl before }
leaves OtherByte s f r b before = record { out = refl; reference = refl; loose = less-comment (next_comment s OtherByte); ends = λ h. absurd (no (sym h ∙ hidden-comment (next_comment s OtherByte))); before = inl before }

-- in a data block
loose-block : (c : Class) → IsLoose (content_next c element.DataBlock)
loose-block LessThan = record { less = refl; shown = refl }
loose-block c = record { less = refl; shown = refl }

loose-less : (c : Class) → IsLoose (pending_less_next c element.DataBlock)
loose-less Solidus = record { less = refl; shown = refl }
loose-less ExclamationMark = record { less = refl; shown = refl }
loose-less LessThan = record { less = refl; shown = refl }
loose-less c = record { less = refl; shown = refl }

loose-end_name : (grows whole : Bool) (c : Class) (b : ℕ) (letters : List ℕ) → IsLoose (end_name_next grows whole c b element.DataBlock letters)
loose-end_name true whole (Letter l) b letters = record { less = refl; shown = refl }
loose-end_name grows true White b letters = record { less = refl; shown = refl }
loose-end_name grows true Solidus b letters = record { less = refl; shown = refl }
loose-end_name grows true GreaterThan b letters = record { less = refl; shown = refl }
loose-end_name grows whole c b letters = loose-block c

loose-bang : (c : Class) → IsLoose (bang_next c element.DataBlock)
loose-bang HyphenMinus = record { less = refl; shown = refl }
loose-bang LessThan = record { less = refl; shown = refl }
loose-bang c = record { less = refl; shown = refl }

loose-end : (h : Pending) (c : Class) (b : ℕ) → IsLoose (content_end_next h c b element.DataBlock)
loose-end Nothing c b = loose-block c
loose-end PendingLess c b = loose-less c
loose-end LessAtCut c b = loose-block c
loose-end (PendingName letters) c b = loose-end_name (may_be_name_of element.DataBlock (letters ++ b ∷ [])) (is_name_of element.DataBlock letters) c b letters
loose-end PendingBang c b = loose-bang c
loose-end PendingBangDash c b = loose-block c
loose-end (PendingOpening letters) c b = loose-block c

in_block : (h : Pending) (c : Class) (b : ℕ) (r : Reference) → r ≡ Closed
    → KeepsBytes (InContentEnd element.DataBlock h) (content_end_next h c b element.DataBlock) r Closed c b (b ∷ [])
in_block h c b r closed = without_references (InContentEnd element.DataBlock h) (content_end_next h c b element.DataBlock) r c b refl (loose-end h c b) refl refl refl closed

-- the value of a script's `type`
before_type : (c : Class) (b : ℕ) (t : TagOf) (r : Reference) → Spelled c b → KeepsBytes (BeforeType t) (before_type_next c b t) r (next_reference r c b) c b (reference_out r c b)
before_type White b t r p = with_references (BeforeType t) (BeforeType t) r White b p refl refl (λ h. absurd (yes h)) refl refl refl refl
before_type QuotationMark b t r p = with_references (BeforeType t) (InType t DoubleQuoted type_begun Closed) r QuotationMark b p refl refl (λ h. absurd (yes h)) refl refl refl refl
before_type Apostrophe b t r p = with_references (BeforeType t) (InType t SingleQuoted type_begun Closed) r Apostrophe b p refl refl (λ h. absurd (yes h)) refl refl refl refl
before_type GreaterThan b t r p =
    let g = content_scan (type_tag t type_begun) in
    let loose = loose-content (type_tag t type_begun) in
    with_references (BeforeType t) g r GreaterThan b p refl loose.less (λ h. ends_at_greater r b) loose.shown refl refl refl
before_type c b t r p = with_references (BeforeType t) (in_type t Unquoted type_begun Closed b) r c b p refl refl (λ h. absurd (yes h)) refl refl refl refl

ends_with_value : (q : Quoting) (c : Class) (b : ℕ) (r : Reference) → ends_value q c ≡ true → next_reference r c b ≡ Closed
ends_with_value DoubleQuoted QuotationMark b r e = ends_at_quotation r b
ends_with_value SingleQuoted Apostrophe b r e = ends_at_apostrophe r b
ends_with_value Unquoted White b r e = ends_at_white r b
ends_with_value Unquoted GreaterThan b r e = ends_at_greater r b
ends_with_value DoubleQuoted c b r e = absurd (no e)
ends_with_value SingleQuoted c b r e = absurd (no e)
ends_with_value Unquoted c b r e = absurd (no e)

loose-after_type : (q : Quoting) (c : Class) (t : TagOf) → IsLoose (after_type q c t)
loose-after_type Unquoted GreaterThan t = loose-content t
loose-after_type q c t = record { less = refl; shown = refl }

within_type : (ends : Bool) (q : Quoting) (c : Class) (b : ℕ) (t : TagOf) (v : Value ValueState) (z r : Reference) → ends_value q c ≡ ends → Spelled c b
    → KeepsBytes (InType t q v z) (type_next ends c b t q v z) r (next_reference r c b) c b (reference_out r c b)
within_type true q c b t v z r e p =
    let g = after_type q c (type_tag t (ended_type v z)) in
    let loose = loose-after_type q c (type_tag t (ended_type v z)) in
    with_references (InType t q v z) g r c b p refl loose.less (λ h. ends_with_value q c b r e) loose.shown refl refl refl
within_type false q c b t v z r e p = with_references (InType t q v z) (in_type t q v z b) r c b p refl refl (λ h. absurd (yes h)) refl refl refl refl

-- In the element `style`: a style that has been scanned is at a place, or in a lexeme.
record IsElementAt (u : StyleScan) (g : Scan) : Type 0 where
  less : less_kept g ≡ solidus_kept u
  hidden : hides g ≡ is_style_comment u
  comment : in_style_comment g ≡ is_style_comment u
  letters : end_letters g ≡ []
  change : (before : Bool) → style_change before g ≡ comment_change before (is_style_comment u)

place-comment : (u : StyleScan) → style_place_comment (place.Style (style_scan_place u)) ≡ is_style_comment u
place-comment (ScanString DoubleQuote e) = refl
place-comment (ScanString SingleQuote e) = refl
place-comment (ScanQuotedUrl DoubleQuote e s t) = refl
place-comment (ScanQuotedUrl SingleQuote e s t) = refl
place-comment u = refl

start-keeps-nothing : (u : StyleScan) → is_style_start u ≡ true → solidus_kept u ≡ []
start-keeps-nothing ScanSolidus h = absurd (no h)
start-keeps-nothing u h = refl

element-if : (starts : Bool) (u : StyleScan) → (starts ≡ true → solidus_kept u ≡ []) → IsElementAt u (if starts then At (place.Style (style_scan_place u)) else InStyleElement u Nothing)
element-if true u h = record { less = sym (h refl); hidden = place-comment u; comment = place-comment u; letters = refl; change = λ before. ap (comment_change before) (place-comment u) }
element-if false u h = record { less = append-nil (solidus_kept u); hidden = refl; comment = refl; letters = refl; change = λ before. refl }

element-at : (u : StyleScan) → IsElementAt u (element_scan u)
element-at u = element-if (is_style_start u) u (start-keeps-nothing u)

-- and a scan state reads it, behind what is pending
record ReadsElement (f : Scan) (s : StyleScan) (bytes : List ℕ) : Type 0 where
  less : less_kept f ≡ solidus_kept s ++ bytes
  comment : in_style_comment f ≡ is_style_comment s
  change : (g : Scan) → change_of f g ≡ style_change (is_style_comment s) g
  moves : (g : Scan) → stays f g ≡ false
  kept : (c : Class) (b : ℕ) (r : Reference) → scan_kept f c b r ≡ Closed
  shown : is_style_comment s ≡ false → hides f ≡ false

start-comment : (p : Css) → style_place_comment (place.Style p) ≡ is_style_comment (style_scan_start p)
start-comment (css.Comment true) = refl
start-comment (css.Comment false) = refl
start-comment p = refl

start-kept : (p : Css) → [] ≡ solidus_kept (style_scan_start p) ++ []
start-kept (css.Comment true) = refl
start-kept (css.Comment false) = refl
start-kept p = refl

reads-start : (p : Css) → ReadsElement (At (place.Style p)) (style_scan_start p) []
reads-start p = record {
  less = start-kept p;
  comment = start-comment p;
  change = λ g. ap (λ (x : Bool). style_change x g) (start-comment p);
  moves = λ g. refl;
  kept = λ c b r. refl;
  shown = λ h. start-comment p ∙ h;
}

pub shown-element : (h : Pending) (s : StyleScan) → is_style_comment s ≡ false → hides (InStyleElement s h) ≡ false
shown-element Nothing s n = n
shown-element h s n = refl

reads-element : (s : StyleScan) (h : Pending) → ReadsElement (InStyleElement s h) s (pending_bytes h)
reads-element s h = record { less = refl; comment = refl; change = λ g. refl; moves = λ g. refl; kept = λ c b r. refl; shown = shown-element h s }

law-by : (k : Change) (f g : Scan) (r s : Reference) (c : Class) (b : ℕ) (out : List ℕ) → change_of f g ≡ k → LawOf k f g r s c b out → Law f g r s c b out
law-by k f g r s c b out e h = subst (λ (x : Change). LawOf x f g r s c b out) (sym e) h

change-by : (f g : Scan) (s : StyleScan) (bytes : List ℕ) (before : Bool) → ReadsElement f s bytes → is_style_comment s ≡ before → change_of f g ≡ style_change before g
change-by f g s bytes before i n = i.change g ∙ ap (λ (x : Bool). style_change x g) n

-- what no `/` waits behind
abbrev last-of : List ℕ → ℕ → ℕ
last-of [] d = d
last-of (x ∷ xs) d = last-of xs x

last-is : (xs : List ℕ) (a d : ℕ) → last-of (xs ++ a ∷ []) d ≡ a
last-is [] a d = refl
last-is (x ∷ xs) a d = last-is xs a x

not-ampersand : (b : ℕ) → b ≡ 47 → b ≡ 38 → ⊥
not-ampersand b h k = omega (arith, h, k)

nothing-waits : (u : StyleScan) (before written : List ℕ) (b : ℕ) → before ++ b ∷ [] ≡ written ++ solidus_kept u → b ≡ 38 → (solidus_kept u ≡ []) ⊎ (solidus_kept u ≡ 47 ∷ []) → solidus_kept u ≡ []
nothing-waits u before written b e h (inl n) = n
nothing-waits u before written b e h (inr k) =
    absurd (not-ampersand b (sym (last-is before b 0) ∙ ap (λ (xs : List ℕ). last-of xs 0) e ∙ ap (λ (xs : List ℕ). last-of (written ++ xs) 0) k ∙ last-is written 47 0) h)

spells-ampersand : (c : Class) (b : ℕ) → Spelled c b → c ≡ Ampersand → b ≡ 38
spells-ampersand c b p h = subst (λ (x : Class). Spelled x b) h p

-- A byte that the style reads, behind bytes that have come to nothing: outside of comments, with which it may open one; and in one.
element-kept : (f g : Scan) (s : StyleScan) (bytes : List ℕ) (u : StyleScan) (c : Class) (b : ℕ) (r : Reference) (written : List ℕ) → ReadsElement f s bytes → IsElementAt u g → Spelled c b → is_style_comment s ≡ false → is_style_comment u ≡ false → r ≡ Closed
    → (solidus_kept s ++ bytes) ++ b ∷ [] ≡ written ++ solidus_kept u → KeepsBytes f g r Closed c b written
element-kept f g s bytes u c b r written i j p n m closed e = record {
  bytes = rw (closed, i.less, j.less) e;
  closed = λ h. refl;
  shown = j.hidden ∙ m;
  before = i.shown n;
  kept = rw (i.moves g) (i.kept c b r);
  out = λ h. absurd (no (sym (i.moves g) ∙ h));
  alone = λ h k. j.less ∙ nothing-waits u (solidus_kept s ++ bytes) written b e (spells-ampersand c b p k) (kept-or-not u);
  comment = λ h. absurd (no (sym (j.comment ∙ m) ∙ h));
  letters = ap (list_all is_ascii_alphabetic) j.letters;
}

element-opens : (f : Scan) (s t : StyleScan) (bytes written : List ℕ) (cl : StyleClass) (c : Class) (b : ℕ) (r : Reference) → ReadsElement f s bytes → is_style_comment s ≡ false → r ≡ Closed → ScanOpens t cl
    → solidus_kept s ++ bytes ≡ written ++ solidus_kept t → Law f (element_scan (style_scan_next t cl b)) r Closed c b (written ++ style_scan_out t cl b)
element-opens f s ScanSolidus bytes written class.Asterisk c b r i n closed o e =
    let g = At (place.Style (css.Comment false)) in
    law-by change.OpensStyleComment f g r Closed c b (written ++ []) (change-by f g s bytes false i n) (record {
      more = written;
      less = i.less ∙ e;
      out = append-nil written;
      none = closed;
      reference = refl;
      loose = refl;
      hidden = refl;
      before = i.shown n;
    })
element-opens f s t bytes written cl c b r i n closed o e = absurd o

element-code : (f : Scan) (s t : StyleScan) (bytes written : List ℕ) (c : Class) (b : ℕ) (r : Reference) → ReadsElement f s bytes → Spelled c b → is_style_comment s ≡ false → is_style_comment t ≡ false → r ≡ Closed
    → solidus_kept s ++ bytes ≡ written ++ solidus_kept t → (is_style_comment (style_scan_next t (style_class b) b) ≡ false) ⊎ ScanOpens t (style_class b)
    → Law f (element_scan (style_scan_next t (style_class b) b)) r Closed c b (written ++ style_scan_out t (style_class b) b)
element-code f s t bytes written c b r i p n m closed e (inl q) =
    let u = style_scan_next t (style_class b) b in
    let g = element_scan u in
    let j = element-at u in
    let out = style_scan_out t (style_class b) b in
    law-by change.Keeps f g r Closed c b (written ++ out) (change-by f g s bytes false i n ∙ j.change false ∙ ap (comment_change false) q)
    (element-kept f g s bytes u c b r (written ++ out) i j p n q closed
    (ap (λ (xs : List ℕ). xs ++ b ∷ []) e ∙ append_assoc written (solidus_kept t) (b ∷ []) ∙ ap (λ (xs : List ℕ). written ++ xs) (scan-waits t b m q) ∙ sym (append_assoc written out (solidus_kept u))))
element-code f s t bytes written c b r i p n m closed e (inr o) = element-opens f s t bytes written (style_class b) c b r i n closed o e

in-comment : (f : Scan) (star : Bool) (cl : StyleClass) (c : Class) (b : ℕ) (r : Reference) → style_class b ≡ cl → in_style_comment f ≡ true → ((g : Scan) → change_of f g ≡ style_change true g)
    → Law f (element_scan (style_comment_next star cl)) r Closed c b (comment_scan_out star cl)
in-comment f true class.Solidus c b r e n ch =
    let g = element_scan (style_comment_next true class.Solidus) in
    law-by change.EndsStyleComment f g r Closed c b (codes " ") (ch g) (record { byte = solidus-byte b e; out = refl; reference = refl; loose = refl; before = n })
in-comment f true class.Asterisk c b r e n ch =
    let g = InStyleElement (ScanComment true) Nothing in
    law-by change.LeavesOut f g r Closed c b [] (ch g) (record { out = refl; reference = refl; loose = refl; ends = λ h. absurd (yes h); before = inr n })
in-comment f false class.Asterisk c b r e n ch =
    let g = InStyleElement (ScanComment true) Nothing in
    law-by change.LeavesOut f g r Closed c b [] (ch g) (record { out = refl; reference = refl; loose = refl; ends = λ h. absurd (yes h); before = inr n })
in-comment f true cl c b r e n ch =
    let g = At (place.Style (css.Comment false)) in
    law-by change.LeavesOut f g r Closed c b [] (ch g) (record { out = refl; reference = refl; loose = refl; ends = λ h. absurd (yes h); before = inr n })
in-comment f false cl c b r e n ch =
    let g = At (place.Style (css.Comment false)) in
    law-by change.LeavesOut f g r Closed c b [] (ch g) (record { out = refl; reference = refl; loose = refl; ends = λ h. absurd (yes h); before = inr n })

comment-by : (f : Scan) (t : StyleScan) (c : Class) (b : ℕ) (r : Reference) → is_style_comment t ≡ true → in_style_comment f ≡ true → ((g : Scan) → change_of f g ≡ style_change true g)
    → Law f (element_scan (style_scan_next t (style_class b) b)) r Closed c b (style_scan_out t (style_class b) b)
comment-by f (ScanComment star) c b r m n ch = in-comment f star (style_class b) c b r refl n ch
comment-by f ScanStarBefore c b r m n ch = in-comment f true (style_class b) c b r refl n ch
comment-by f t c b r m n ch = absurd (no m)

-- a `<`, which may begin the end tag
element-less : (f : Scan) (s t : StyleScan) (bytes written : List ℕ) (c : Class) (b : ℕ) (r : Reference) → ReadsElement f s bytes → b ≡ 60 → LessThan ≡ c → is_style_comment s ≡ false → is_style_comment t ≡ false → r ≡ Closed
    → solidus_kept s ++ bytes ≡ written ++ solidus_kept t → Law f (InStyleElement t PendingLess) r Closed c b (written ++ [])
element-less f s t bytes written c b r i p k n m closed e =
    let g = InStyleElement t PendingLess in
    law-by change.Keeps f g r Closed c b (written ++ []) (change-by f g s bytes false i n) (record {
      bytes = rw (closed, i.less, append-nil written, e, p) (append_assoc written (solidus_kept t) (60 ∷ []));
      closed = λ h. refl;
      shown = refl;
      before = i.shown n;
      kept = rw (i.moves g) (i.kept c b r);
      out = λ h. absurd (no (sym (i.moves g) ∙ h));
      alone = λ h a. absurd (less-no-ampersand (k ∙ a));
      comment = λ h. absurd (no (sym m ∙ h));
      letters = refl;
    })

comment-less : (f : Scan) (t : StyleScan) (c : Class) (b : ℕ) (r : Reference) → b ≡ 60 → is_style_comment t ≡ true → in_style_comment f ≡ true → ((g : Scan) → change_of f g ≡ style_change true g)
    → Law f (InStyleElement t PendingLess) r Closed c b []
comment-less f t c b r p m n ch =
    let g = InStyleElement t PendingLess in
    law-by change.LeavesPending f g r Closed c b [] (ch g) (record {
      byte = p;
      out = refl;
      reference = refl;
      less = rw (comment-keeps-nothing t m, p) refl;
      shown = refl;
      letters = refl;
      before = n;
    })

element-byte : (comment : Bool) (f : Scan) (s : StyleScan) (bytes : List ℕ) (c : Class) (b : ℕ) (r : Reference) → is_style_comment s ≡ comment → FedBytes comment s bytes → ReadsElement f s bytes → Spelled c b → r ≡ Closed
    → Law f (element_next (fed s bytes) c b) r Closed c b (wrote s bytes ++ language_loose_out scan_writing c b (fed s bytes))
element-byte true f s bytes LessThan b r n k i p closed =
    subst (λ (out : List ℕ). Law f (InStyleElement (fed s bytes) PendingLess) r Closed LessThan b (out ++ [])) (sym k.1)
    (comment-less f (fed s bytes) LessThan b r p k.0 (i.comment ∙ n) (λ g. change-by f g s bytes true i n))
element-byte false f s bytes LessThan b r n k i p closed =
    element-less f s (fed s bytes) bytes (wrote s bytes) LessThan b r i p refl n (no-comment-behind bytes s k n) closed (written-behind bytes s k n)
element-byte true f s bytes c b r n k i p closed =
    subst (λ (out : List ℕ). Law f (element_scan (style_scan_next (fed s bytes) (style_class b) b)) r Closed c b (out ++ style_scan_out (fed s bytes) (style_class b) b)) (sym k.1)
    (comment-by f (fed s bytes) c b r k.0 (i.comment ∙ n) (λ g. change-by f g s bytes true i n))
element-byte false f s bytes c b r n k i p closed =
    let m = no-comment-behind bytes s k n in
    element-code f s (fed s bytes) bytes (wrote s bytes) c b r i p n m closed (written-behind bytes s k n) (scan-opens-or-not (fed s bytes) (style_class b) b m)

-- What may be its end tag: it goes on, or ends the element.
element-grows : (f g : Scan) (s : StyleScan) (bytes more : List ℕ) (c : Class) (b : ℕ) (r : Reference) → ReadsElement f s bytes → hides f ≡ false → less_kept g ≡ solidus_kept s ++ (bytes ++ b ∷ []) → hides g ≡ false → in_style_comment g ≡ is_style_comment s
    → list_all is_ascii_alphabetic (end_letters g) ≡ true → ((before : Bool) → style_change before g ≡ change.Keeps) → (c ≡ Ampersand → ⊥) → r ≡ Closed → Law f g r Closed c b []
element-grows f g s bytes more c b r i shown less hidden comment letters ch other closed =
    law-by change.Keeps f g r Closed c b [] (i.change g ∙ ch (is_style_comment s)) (record {
      bytes = rw (closed, i.less, less) (append_assoc (solidus_kept s) bytes (b ∷ []));
      closed = λ h. refl;
      shown = hidden;
      before = shown;
      kept = rw (i.moves g) (i.kept c b r);
      out = λ h. refl;
      alone = λ h a. absurd (other a);
      comment = λ h. (i.comment ∙ sym comment ∙ h, refl);
      letters = letters;
    })

element-ends : (comment : Bool) (f g : Scan) (s : StyleScan) (bytes : List ℕ) (c : Class) (b : ℕ) (r : Reference) → is_style_comment s ≡ comment → ReadsElement f s bytes → hides f ≡ false → IsLoose g → ((before : Bool) → style_change before g ≡ end_tag_change before) → (c ≡ Ampersand → ⊥) → r ≡ Closed
    → Law f g r Closed c b (style_scan_cut_out s ++ (bytes ++ b ∷ []))
element-ends true f g s bytes c b r n i shown loose ch other closed =
    law-by change.EndsInStyleComment f g r Closed c b (style_scan_cut_out s ++ (bytes ++ b ∷ [])) (change-by f g s bytes true i n ∙ ch true) (record {
      out = rw (i.less, comment-cut s n, comment-keeps-nothing s n) refl;
      none = closed;
      reference = refl;
      loose = loose.less;
      shown = loose.shown;
      comment = loose-comment g loose.less loose.shown;
      before = i.comment ∙ n;
      cut = shown;
    })
element-ends false f g s bytes c b r n i shown loose ch other closed =
    law-by change.Keeps f g r Closed c b (style_scan_cut_out s ++ (bytes ++ b ∷ [])) (change-by f g s bytes false i n ∙ ch false) (record {
      bytes = rw (closed, i.less, loose.less, cut-writes s n, append-nil (solidus_kept s ++ (bytes ++ b ∷ []))) (append_assoc (solidus_kept s) bytes (b ∷ []));
      closed = λ h. refl;
      shown = loose.shown;
      before = shown;
      kept = rw (i.moves g) (i.kept c b r);
      out = λ h. absurd (no (sym (i.moves g) ∙ h));
      alone = λ h a. absurd (other a);
      comment = λ h. absurd (no (sym (loose-comment g loose.less loose.shown) ∙ h));
      letters = no-name g loose.less;
    })

in_element : (f : Scan) (s : StyleScan) (c : Class) (b : ℕ) (r : Reference) → ReadsElement f s [] → Spelled c b → r ≡ Closed → Law f (element_next s c b) r Closed c b (language_loose_out scan_writing c b s)
in_element f s c b r i p closed = element-byte (is_style_comment s) f s [] c b r refl (fed-pending Nothing (is_style_comment s) s tt refl) i p closed

after_style_less : (s : StyleScan) (c : Class) (b : ℕ) (r : Reference) → Spelled c b → r ≡ Closed
    → Law (InStyleElement s PendingLess) (element_less_next s c b) r Closed c b (language_less_out scan_writing c b s)
after_style_less s Solidus b r p closed =
    element-grows (InStyleElement s PendingLess) (InStyleElement s (PendingName [])) s (codes "<") [] Solidus b r (reads-element s PendingLess) refl (rw p refl) refl refl refl (λ before. refl) (λ h. cc) closed
after_style_less s c b r p closed =
    element-byte (is_style_comment s) (InStyleElement s PendingLess) s (codes "<") c b r refl (fed-pending PendingLess (is_style_comment s) s tt refl) (reads-element s PendingLess) p closed

in_style_name : (s : StyleScan) (grows whole : Bool) (c : Class) (b : ℕ) (letters : List ℕ) (r : Reference) → Spelled c b → list_all is_ascii_alphabetic letters ≡ true → r ≡ Closed
    → Law (InStyleElement s (PendingName letters)) (element_name_next s grows whole c b letters) r Closed c b (language_name_out scan_writing grows whole c b letters s)
in_style_name s true whole (Letter l) b letters r p a closed =
    element-grows (InStyleElement s (PendingName letters)) (InStyleElement s (PendingName (letters ++ b ∷ []))) s (codes "</" ++ letters) [] (Letter l) b r (reads-element s (PendingName letters)) refl refl refl refl
    (list_all-append is_ascii_alphabetic letters (b ∷ []) ∙ rw (a, p) refl) (λ before. refl) (λ h. cc) closed
in_style_name s grows true White b letters r p a closed =
    element-ends (is_style_comment s) (InStyleElement s (PendingName letters)) (in_tag tag.End false only_before None) s (codes "</" ++ letters) White b r refl (reads-element s (PendingName letters)) refl (record { less = refl; shown = refl }) (λ before. refl) (λ h. cc) closed
in_style_name s grows true Solidus b letters r p a closed =
    element-ends (is_style_comment s) (InStyleElement s (PendingName letters)) (in_tag tag.End false only_before None) s (codes "</" ++ letters) Solidus b r refl (reads-element s (PendingName letters)) refl (record { less = refl; shown = refl }) (λ before. refl) (λ h. cc) closed
in_style_name s grows true GreaterThan b letters r p a closed =
    element-ends (is_style_comment s) (InStyleElement s (PendingName letters)) (At place.Text) s (codes "</" ++ letters) GreaterThan b r refl (reads-element s (PendingName letters)) refl (record { less = refl; shown = refl }) (λ before. refl) (λ h. cc) closed
in_style_name s grows whole c b letters r p a closed =
    element-byte (is_style_comment s) (InStyleElement s (PendingName letters)) s (codes "</" ++ letters) c b r refl (fed-pending (PendingName letters) (is_style_comment s) s a refl) (reads-element s (PendingName letters)) p closed

-- the scan states of the code
abbrev IsReadEnd : Element → Pending → Type 0
IsReadEnd element.DataBlock h = h ≡ h
IsReadEnd e PendingLess = e ≡ e
IsReadEnd e (PendingName letters) = e ≡ e
IsReadEnd e h = ⊥

abbrev pub IsRead : Scan → Type 0
IsRead (InContentEnd e h) = IsReadEnd e h
IsRead (InStyleElement s h) = MayEnd h
IsRead f = f ≡ f

abbrev LawAt : Scan → Class → ℕ → Reference → Type 0
LawAt f c b r = Law f (scan_next f c b) r (scan_open f c b r) c b (scan_out f c b r)

at_place : (p : Place) (c : Class) (b : ℕ) (r : Reference) → Spelled c b → (bears (At p) ≡ false → r ≡ Closed) → LawAt (At p) c b r
at_place place.Text c b r p closed = in_text c b r p
at_place (place.Rcdata element.DataBlock) c b r p closed =
    without_references (At (place.Rcdata element.DataBlock)) (content_next c element.DataBlock) r c b refl (loose-block c) refl refl refl (closed refl)
at_place (place.Rcdata e) c b r p closed = in_rcdata e refl c b r p
at_place (place.Value v) c b r p closed = in_quotes (At (place.Value v)) (reads-place v) v.quotes c b v NoTriple Closed r p
at_place (place.Tag t) c b r p closed = without_references (At (place.Tag t)) (tag_next t c b) r c b refl (loose-tag c t b) refl refl refl (closed refl)
at_place place.Doctype c b r p closed = without_references (At place.Doctype) (doctype_next c) r c b refl (loose-doctype c) refl refl refl (closed refl)
at_place (place.Comment dash) c b r p closed = leaves c (comment_state dash) (At (place.Comment dash)) r b refl
at_place (place.Script j) c b r p closed = tt
at_place (place.Style q) c b r p closed = in_element (At (place.Style q)) (style_scan_start q) c b r (reads-start q) p (closed refl)
at_place (place.Block lt) c b r p closed = without_references (At (place.Block lt)) (content_next c element.DataBlock) r c b refl (loose-block c) refl refl refl (closed refl)

at_end : (e : Element) (h : Pending) (c : Class) (b : ℕ) (r : Reference) → IsReadEnd e h → Spelled c b → (bears (InContentEnd e h) ≡ false → r ≡ Closed) → LawAt (InContentEnd e h) c b r
at_end element.DataBlock h c b r i p closed = in_block h c b r (closed refl)
at_end e Nothing c b r i p closed = absurd i
at_end e PendingLess c b r i p closed = after_content_less e refl c b r p (closed refl)
at_end e (PendingName letters) c b r i p closed = in_end_name e refl (may_be_name_of e (letters ++ b ∷ [])) (is_name_of e letters) c b letters r p (closed refl)
at_end e LessAtCut c b r i p closed = absurd i
at_end e PendingBang c b r i p closed = absurd i
at_end e PendingBangDash c b r i p closed = absurd i
at_end e (PendingOpening letters) c b r i p closed = absurd i

at_style : (h : Pending) (s : StyleScan) (c : Class) (b : ℕ) (r : Reference) → MayEnd h → Spelled c b → (bears (InStyleElement s h) ≡ false → r ≡ Closed) → LawAt (InStyleElement s h) c b r
at_style Nothing s c b r i p closed = in_element (InStyleElement s Nothing) s c b r (reads-element s Nothing) p (closed refl)
at_style PendingLess s c b r i p closed = after_style_less s c b r p (closed refl)
at_style (PendingName letters) s c b r i p closed = in_style_name s (may_be_name_of element.Style (letters ++ b ∷ [])) (is_name_of element.Style letters) c b letters r p i (closed refl)
at_style LessAtCut s c b r i p closed = absurd i
at_style PendingBang s c b r i p closed = absurd i
at_style PendingBangDash s c b r i p closed = absurd i
at_style (PendingOpening letters) s c b r i p closed = absurd i

pub law : (f : Scan) (c : Class) (b : ℕ) (r : Reference) → IsRead f → Spelled c b → (bears f ≡ false → r ≡ Closed) → LawAt f c b r
law (At q) c b r i p closed = at_place q c b r p closed
law AfterLess c b r i p closed = after_less c b r p
law AfterLessSolidus c b r i p closed = after_solidus c b r p
law (InDeclaration bytes) c b r i p closed = in_declared (declared_by (bytes ++ b ∷ [])) c b bytes r p
law (InTagName ends name) c b r i p closed = without_references (InTagName ends name) (tag_name_next c b ends name) r c b refl (loose-tag_name c b ends name) refl refl refl (closed refl)
law (InAttributeName t typed name) c b r i p closed = without_references (InAttributeName t typed name) (attribute_name_next c b t typed (kind_of (element_on t) name) name) r c b refl (loose-attribute_name c b t typed (kind_of (element_on t) name) name) refl refl refl (closed refl)
law (InCommentEnd s) c b r i p closed = leaves c s (InCommentEnd s) r b refl
law (InContentEnd e h) c b r i p closed = at_end e h c b r i p closed
law (InStyleElement s h) c b r i p closed = at_style h s c b r i p closed
law (InScriptElement n h) c b r i p closed = tt
law (InUrl v t z) c b r i p closed = in_quotes (InUrl v t z) (reads-url v t z) v.quotes c b v t z r p
law (InStyle v s z) c b r i p closed = in_style v.quotes (InStyle v s z) (reads-style v s z) c b v s z r p
law (InScript v n z) c b r i p closed = in_script v.quotes (InScript v n z) (reads-script v n z) c b v n z r p
law (BeforeType t) c b r i p closed = before_type c b t r p
law (InType t q v z) c b r i p closed = within_type (ends_value q c) q c b t v z r refl p
