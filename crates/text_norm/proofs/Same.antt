-- What is written by a state and by its scan state is the same, and so it is by a scan state and one above it.
use Rattle.std.proofs.Common.{◌≡◌, ℕ, ◌+◌, Bool, true, false, codes, List, [], ◌∷◌, ◌++◌, Option, Some, None, option_map, inl, if◌then◌else◌, Ok, refl, sym, ap, ap₂, ◌∙◌, subst}
use Rattle.html_step.proofs.ScriptPaths.{kept_script_scanned, one-stand, script_value}
use Rattle.html_step.proofs.ScriptElementOrder.{DoesAlike}
use Rattle.html_step.proofs.ScriptElementSteps.{where-script-element}
use Rattle.html_step.proofs.ScriptOrder.{ScriptUnder, below-js, scripts-in-order}
use Rattle.html_step.proofs.JsPlaces.{js-below-place}
use Rattle.js_lexer.specs.Elements.{script_may_end}
use Rattle.js_lexer.specs.States.{ScriptState}
use Rattle.js_step.specs.ScriptScans.{ScriptScan, script_scan_start}
use Rattle.place_core.specs.declared.body.Body.{Body}
use Rattle.place_core.specs.page.Classes.{Class, White, ExclamationMark, QuotationMark, Apostrophe, HyphenMinus, Solidus, LessThan, EqualsSign, GreaterThan, QuestionMark, Letter, class_of}
use Rattle.place_core.specs.page.Comments.{Declaration, OpensComment, OpensDoctype, Undecided, OpensNothing, closes_comment, comment_ended, declared_by, next_in_comment, next_in_doctype}
use Rattle.place_core.specs.page.Contents.{ScriptStep, Reads, EndsContent, behind_end_tag, next_by_step, script_step, may_be_name_of, is_name_of, pending_bytes, next_bang, next_end_name, next_in_content, next_less, next_loose}
use Rattle.place_core.specs.page.Html.{after_tag, ends_value, next, next_after_name, next_after_value, next_before_name, next_before_value, next_declaration, next_end_tag_open, next_name, next_tag_name, next_tag_open, next_text, next_value}
use Rattle.place_core.specs.place.Errors.{pending_error, split_error, TextRead, nothing_read}
use Rattle.place_core.specs.place.LanguagePlaces.{IsValidJs}
use Rattle.place_core.specs.place.Places.{Below, IsValid}
use Rattle.place_core.specs.declared.body.Body.TheVariants as body
use Rattle.place_core.specs.declared.js.Js.{Js}
use Rattle.place_core.specs.page.References.{Reference, Closed, Open, as_it_stands, begin_reference, next_reference, settled}
use Rattle.place_core.specs.page.States.{CommentState, Started, StartedDash, Inside, Dash, DashDash, Bang, Broken, Template, LexState, Text, TagOpen, EndTagOpen, DeclarationOpen, InComment, BogusComment, InDoctype, TagName, WholeTagName, BeforeAttributeName, AttributeName, WholeAttributeName, AfterAttributeName, BeforeAttributeValue, AttributeValue, AfterAttributeValue, SelfClosingStartTag, Characters, Bytes, InLanguage, Pending, Nothing, PendingLess, LessAtCut, PendingName, PendingBang, PendingBangDash, PendingOpening, InContent}
use Rattle.place_core.specs.page.Tags.{Tag, ValueState, OfKind, OfUrl, OfStyle, fed_state, languages, Quoting, DoubleQuoted, SingleQuoted, Unquoted, Value, ValueOf, Deciding, element_on, is_second_type, tag_of_name, with_bytes, tag_with_value, without_value, OfScript}
use Rattle.place_core.specs.declared.element.Element.{Element}
use Rattle.place_core.specs.declared.element.Element.TheVariants as element
use Rattle.place_core.specs.page.Words.{kind_of}
use Rattle.place_core.specs.declared.kind.Kind.{Kind}
use Rattle.place_core.specs.declared.kind.Kind.TheVariants as kind
use Rattle.place_core.specs.declared.place.Place.{Place}
use Rattle.place_core.specs.declared.place.Place.TheVariants as place
use Rattle.place_core.specs.declared.tag_of.TagOf.{TagOf}
use Rattle.place_core.specs.declared.tag_of.TagOf.TheVariants as which
use Rattle.place_core.specs.declared.value_place.ValuePlace.{ValuePlace}
use Rattle.place_core.proofs.Semilattices.{none_some, one_value}
use Rattle.html_scan.specs.Scans.{Scan, At, AfterLess, AfterLessSolidus, InDeclaration, InTagName, InAttributeName, InCommentEnd, InContentEnd, InStyleElement, InScriptElement, InUrl, InStyle, InScript, BeforeType, InType, element_scan, scan_cut_error, scan_error, scan_next, style_feeding, style_less_cause, style_scan, url_scan, with_style}
use Rattle.css_lexer.specs.States.{Style}
use Rattle.css_step.proofs.OneStylePath.{exact-on-one-style}
use Rattle.css_step.proofs.StyleGrowth.{styles-grow}
use Rattle.css_step.specs.StyleScanLaws.{IsStyleScan, style_scanned}
use Rattle.css_step.specs.StyleScans.{StyleScan, is_style_start, style_scan_start}
use Rattle.place_core.specs.place.ScriptParts.{script_body}
use Rattle.url_lexer.specs.States.{Url}
use Rattle.html_step.proofs.PlaceParts.{below-rcdata}
use Rattle.html_step.proofs.ScanOrder.{ScanBelow, ScanValid, StyleUnder, scan-grows, style-below-place}
use Rattle.html_step.proofs.StylePaths.{style_value}
use Rattle.html_step.proofs.ElementSteps.{element-scan-error}
use Rattle.html_step.proofs.ElementsBelow.{ElementUnder, under-element}
use Rattle.html_step.proofs.FedAlike.{first-caused}
use Rattle.html_step.proofs.PathScans.{WhereScanned, content_scanned, element_scanned, scanned, script_element_scanned, style_element_scanned, style_value_scanned, url_scanned, script_there, script_unless_placed, script_value_scanned}
use Rattle.html_step.proofs.OneTexts.{agrees-at, at-place}
use Rattle.html_step.proofs.ValidSteps.{scan-valid}
use Rattle.html_step.proofs.WholeTexts.{end-ok, grows-text, step-ok, text-steps}
use Rattle.html_step.specs.Steps.{scan_read_behind, stepped}
use Rattle.url_lexer.specs.Triples.{Triple, NoTriple, AfterPercent, AfterDigit}
use Rattle.text_norm.proofs.ElementsSame.{below-cut, element-cut, element-open, element-out, paths-write, scans-write}
use Rattle.text_norm.proofs.ScriptElementsSame.{nothing-cut, path-ends, path-mode, script-cut-same, script-out-same, script-paths-write, script-scans-write, under-ends, under-mode}
use Rattle.text_norm.proofs.WritingsAlike.{content-cut-same, content-same}
use Rattle.text_norm.specs.Laws.{WrittenOnPaths}
use Rattle.place_core.specs.place.StatePlaces.{only_after, only_inside, placed, quotes_at, tag_spot}
use Rattle.text_norm.specs.Scanned.{declaration_open, less_open, scan_cut_out, scan_open, scan_out, written_from}
use Rattle.text_norm.specs.Written.{cut_out, out, reference_out, text_escaped, value_out, written}

-- A scan state and one above it.
record Same (f g : Scan) (c : Class) (b : ℕ) (r : Reference) : Type 0 where
  outs : scan_out f c b r ≡ scan_out g c b r
  opens : scan_open f c b r ≡ scan_open g c b r

script-starts : (x y : Js) → IsValidJs x → Below (place.Script x) (place.Script y) → ScriptUnder (script_scan_start x) (script_scan_start y)
script-starts x y v h = scripts-in-order x y v (below-js x y (js-below-place x y h))

place-same : (a p : Place) (c : Class) (b : ℕ) (r : Reference) → class_of b ≡ c → IsValid a → Below a p → scan_error (At p) c b ≡ None → Same (At a) (At p) c b r
place-same place.Text place.Text c b r i v h n = record { outs = refl; opens = refl }
place-same place.Doctype place.Doctype c b r i v h n = record { outs = refl; opens = refl }
place-same (place.Comment x) (place.Comment y) c b r i v h n = record { outs = refl; opens = refl }
place-same (place.Rcdata x) (place.Rcdata y) c b r i v h n =
    (let e = below-rcdata x y h in record { outs = ap (λ (z : Element). scan_out (At (place.Rcdata z)) c b r) e; opens = ap (λ (z : Element). scan_open (At (place.Rcdata z)) c b r) e })
place-same (place.Tag x) (place.Tag y) c b r i v h n = record { outs = refl; opens = refl }
place-same (place.Value x) (place.Value y) c b r i v h n = record { outs = refl; opens = refl }
place-same (place.Script x) (place.Script y) c b r i v h n =
    record {
      outs = script-out-same script-scans-write element.Script Nothing c b (script_scan_start x) (script_scan_start y) (script-starts x y v h) i (inl refl) n;
      opens = refl;
    }
place-same (place.Style x) (place.Style y) c b r i v h n =
    record { outs = content-same scans-write element.Style Nothing c b (style_scan_start x) (style_scan_start y) (styles-grow.places x y (style-below-place x y h)).start n; opens = refl }
place-same (place.Block x) (place.Block y) c b r i v h n = record { outs = refl; opens = refl }
place-same place.Text p c b r i v h n = absurd (none_some p h)
place-same place.Doctype p c b r i v h n = absurd (none_some p h)
place-same (place.Comment x) p c b r i v h n = absurd (none_some p h)
place-same (place.Rcdata x) p c b r i v h n = absurd (none_some p h)
place-same (place.Tag x) p c b r i v h n = absurd (none_some p h)
place-same (place.Value x) p c b r i v h n = absurd (none_some p h)
place-same (place.Script x) p c b r i v h n = absurd (none_some p h)
place-same (place.Style x) p c b r i v h n = absurd (none_some p h)
place-same (place.Block x) p c b r i v h n = absurd (none_some p h)

rigid : (f g : Scan) (c : Class) (b : ℕ) (r : Reference) → f ≡ g → Same f g c b r
rigid f g c b r e = record { outs = ap (λ (z : Scan). scan_out z c b r) e; opens = ap (λ (z : Scan). scan_open z c b r) e }

-- in the element `style`, a style in a lexeme, and what is pending behind it
element-same : (s : StyleScan) (k : Pending) (g : Scan) (c : Class) (b : ℕ) (r : Reference) → ElementUnder s k g → scan_error g c b ≡ None → Same (InStyleElement s k) g c b r
element-same s k g c b r u n =
    under-element (λ f. scan_error f c b ≡ None → Same (InStyleElement s k) f c b r) s k g u
    (λ m l e. record { outs = content-same scans-write element.Style k c b s m l e; opens = refl })
    (λ d i l e. subst (λ (x : Pending). Same (InStyleElement s x) (At (place.Style d)) c b r) (sym i) (record { outs = content-same scans-write element.Style Nothing c b s (style_scan_start d) l e; opens = refl })) n

-- in a value, a style in a lexeme is below a place or another lexeme
style-same : (v : ValuePlace) (n : StyleScan) (z : Reference) (g : Scan) (c : Class) (b : ℕ) (r : Reference) → StyleUnder v n z g
    → Same (InStyle v n z) g c b r
style-same v n z (At (place.Value w)) c b r h = record { outs = refl; opens = refl }
style-same v n z (At p) c b r h = absurd h.0
style-same v n z (InStyle w m y) c b r h = record { outs = refl; opens = refl }
style-same v n z g c b r h = absurd h

-- in the element `script`
script-element-same : (n m : ScriptScan) (h k : Pending) (c : Class) (b : ℕ) (r : Reference) → class_of b ≡ c → ScriptUnder n m → h ≡ k → DoesAlike n m k → scan_error (InScriptElement m k) c b ≡ None
    → Same (InScriptElement n h) (InScriptElement m k) c b r
script-element-same n m h k c b r i u e d t =
    subst (λ (z : Pending). Same (InScriptElement n z) (InScriptElement m k) c b r) (sym e) (record {
      outs = script-out-same script-scans-write element.Script k c b n m u i (under-mode n m k u d) t;
      opens = refl;
    })

scan-same : (f g : Scan) (c : Class) (b : ℕ) (r : Reference) → class_of b ≡ c → ScanValid f → ScanBelow f g → scan_error g c b ≡ None → Same f g c b r
scan-same (At a) (At p) c b r i v h taken = place-same a p c b r i v h taken
scan-same (At a) AfterLess c b r i v h taken = absurd h
scan-same (At a) AfterLessSolidus c b r i v h taken = absurd h
scan-same (At a) (InDeclaration pending) c b r i v h taken = absurd h
scan-same (At a) (InTagName ends name) c b r i v h taken = absurd h
scan-same (At a) (InAttributeName t x n) c b r i v h taken = absurd h
scan-same (At a) (InCommentEnd s) c b r i v h taken = absurd h
scan-same (At a) (InStyle w y u) c b r i v h taken = absurd h
scan-same (At a) (InScript w y u) c b r i v h taken = absurd h
scan-same (At a) (InContentEnd e k) c b r i v h taken = absurd h
scan-same (At a) (InUrl v t z) c b r i valid h taken = absurd h
scan-same (At a) (InStyleElement s k) c b r i v h taken = absurd h
scan-same (At a) (InScriptElement s k) c b r i v h taken = absurd h
scan-same (At a) (BeforeType t) c b r i v h taken = absurd h
scan-same (At a) (InType t q v z) c b r i valid h taken = absurd h
scan-same (InAttributeName t x n) (InAttributeName u y m) c b r i v h taken = record { outs = refl; opens = refl }
scan-same (InAttributeName t x n) (At p) c b r i v h taken = absurd h
scan-same (InAttributeName t x n) AfterLess c b r i v h taken = absurd h
scan-same (InAttributeName t x n) AfterLessSolidus c b r i v h taken = absurd h
scan-same (InAttributeName t x n) (InDeclaration pending) c b r i v h taken = absurd h
scan-same (InAttributeName t x n) (InTagName ends name) c b r i v h taken = absurd h
scan-same (InAttributeName t x n) (InCommentEnd s) c b r i v h taken = absurd h
scan-same (InAttributeName t x n) (InStyle w y u) c b r i v h taken = absurd h
scan-same (InAttributeName t x n) (InScript w y u) c b r i v h taken = absurd h
scan-same (InAttributeName t x n) (InContentEnd e k) c b r i v h taken = absurd h
scan-same (InAttributeName t x n) (InUrl v u z) c b r i valid h taken = absurd h
scan-same (InAttributeName t x n) (InStyleElement s k) c b r i v h taken = absurd h
scan-same (InAttributeName t x n) (InScriptElement s k) c b r i v h taken = absurd h
scan-same (InAttributeName t x n) (BeforeType u) c b r i v h taken = absurd h
scan-same (InAttributeName t x n) (InType u q v z) c b r i valid h taken = absurd h
scan-same (InUrl v t z) (InUrl w u y) c b r i valid h taken = record { outs = refl; opens = refl }
scan-same (InUrl v t z) (At p) c b r i valid h taken = absurd h
scan-same (InUrl v t z) AfterLess c b r i valid h taken = absurd h
scan-same (InUrl v t z) AfterLessSolidus c b r i valid h taken = absurd h
scan-same (InUrl v t z) (InDeclaration pending) c b r i valid h taken = absurd h
scan-same (InUrl v t z) (InTagName ends name) c b r i valid h taken = absurd h
scan-same (InUrl v t z) (InAttributeName u x n) c b r i valid h taken = absurd h
scan-same (InUrl v t z) (InCommentEnd s) c b r i valid h taken = absurd h
scan-same (InUrl v t z) (InStyle w y u) c b r i valid h taken = absurd h
scan-same (InUrl v t z) (InScript w y u) c b r i valid h taken = absurd h
scan-same (InUrl v t z) (InStyleElement s k) c b r i valid h taken = absurd h
scan-same (InUrl v t z) (InScriptElement s k) c b r i valid h taken = absurd h
scan-same (InUrl v t z) (InContentEnd e k) c b r i valid h taken = absurd h
scan-same (InUrl v t z) (BeforeType u) c b r i valid h taken = absurd h
scan-same (InUrl v t z) (InType u q x y) c b r i valid h taken = absurd h
scan-same (InStyle v s z) g c b r i valid h taken = style-same v s z g c b r h
scan-same (InScript v n z) (InScript w m y) c b r i valid h taken = record { outs = refl; opens = refl }
scan-same (InScript v n z) g c b r i valid h taken = absurd h
scan-same (InStyleElement s k) g c b r i v h taken = element-same s k g c b r h taken
scan-same (InScriptElement n k) (InScriptElement m l) c b r i v h taken = script-element-same n m k l c b r i h.0 h.1 h.2 taken
scan-same (InScriptElement n k) g c b r i v h taken = absurd h
scan-same AfterLess g c b r i v h taken = rigid AfterLess g c b r h
scan-same AfterLessSolidus g c b r i v h taken = rigid AfterLessSolidus g c b r h
scan-same (InDeclaration pending) g c b r i v h taken = rigid (InDeclaration pending) g c b r h
scan-same (InTagName ends name) g c b r i v h taken = rigid (InTagName ends name) g c b r h
scan-same (InCommentEnd s) g c b r i v h taken = rigid (InCommentEnd s) g c b r h
scan-same (InContentEnd e k) g c b r i v h taken = rigid (InContentEnd e k) g c b r h
scan-same (BeforeType t) g c b r i v h taken = rigid (BeforeType t) g c b r h
scan-same (InType t q v z) g c b r i valid h taken = rigid (InType t q v z) g c b r h

element-cut-same : (s : StyleScan) (k : Pending) (g : Scan) (r : Reference) → ElementUnder s k g → scan_cut_error g ≡ None → scan_cut_out (InStyleElement s k) r ≡ scan_cut_out g r
element-cut-same s k g r u n =
    under-element (λ f. scan_cut_error f ≡ None → scan_cut_out (InStyleElement s k) r ≡ scan_cut_out f r) s k g u
    (λ m l e. content-cut-same scans-write k s m l (first-caused (pending_error style_feeding m (pending_bytes k)) (split_error style_less_cause m k) e).0)
    (λ d i l e. subst (λ (x : Pending). scan_cut_out (InStyleElement s x) r ≡ scan_cut_out (At (place.Style d)) r) (sym i) (below-cut s (style_scan_start d) l)) n

place-cut-same : (a p : Place) (r : Reference) → IsValid a → Below a p → scan_cut_out (At a) r ≡ scan_cut_out (At p) r
place-cut-same place.Text place.Text r v h = refl
place-cut-same place.Doctype place.Doctype r v h = refl
place-cut-same (place.Comment x) (place.Comment y) r v h = refl
place-cut-same (place.Rcdata x) (place.Rcdata y) r v h = refl
place-cut-same (place.Tag x) (place.Tag y) r v h = refl
place-cut-same (place.Value x) (place.Value y) r v h = refl
place-cut-same (place.Script x) (place.Script y) r v h = under-ends (script_scan_start x) (script_scan_start y) (script-starts x y v h)
place-cut-same (place.Style x) (place.Style y) r v h = below-cut (style_scan_start x) (style_scan_start y) (styles-grow.places x y (style-below-place x y h)).start
place-cut-same (place.Block x) (place.Block y) r v h = refl
place-cut-same place.Text p r v h = absurd (none_some p h)
place-cut-same place.Doctype p r v h = absurd (none_some p h)
place-cut-same (place.Comment x) p r v h = absurd (none_some p h)
place-cut-same (place.Rcdata x) p r v h = absurd (none_some p h)
place-cut-same (place.Tag x) p r v h = absurd (none_some p h)
place-cut-same (place.Value x) p r v h = absurd (none_some p h)
place-cut-same (place.Script x) p r v h = absurd (none_some p h)
place-cut-same (place.Style x) p r v h = absurd (none_some p h)
place-cut-same (place.Block x) p r v h = absurd (none_some p h)

style-cut-same : (v : ValuePlace) (n : StyleScan) (z : Reference) (g : Scan) (r : Reference) → StyleUnder v n z g
    → scan_cut_out (InStyle v n z) r ≡ scan_cut_out g r
style-cut-same v n z (At (place.Value w)) r h = refl
style-cut-same v n z (At p) r h = absurd h.0
style-cut-same v n z (InStyle w m y) r h = refl
style-cut-same v n z g r h = absurd h

script-element-cut-same : (n m : ScriptScan) (h k : Pending) (r : Reference) → ScriptUnder n m → h ≡ k → DoesAlike n m k → scan_cut_error (InScriptElement m k) ≡ None
    → scan_cut_out (InScriptElement n h) r ≡ scan_cut_out (InScriptElement m k) r
script-element-cut-same n m h k r u e d t =
    subst (λ (z : Pending). scan_cut_out (InScriptElement n z) r ≡ scan_cut_out (InScriptElement m k) r) (sym e) (script-cut-same script-scans-write k n m u (under-mode n m k u d) t)

cut-same : (f g : Scan) (r : Reference) → ScanValid f → ScanBelow f g → scan_cut_error g ≡ None → scan_cut_out f r ≡ scan_cut_out g r
cut-same (At a) (At p) r valid h taken = place-cut-same a p r valid h
cut-same (At a) AfterLess r valid h taken = absurd h
cut-same (At a) AfterLessSolidus r valid h taken = absurd h
cut-same (At a) (InDeclaration pending) r valid h taken = absurd h
cut-same (At a) (InTagName ends name) r valid h taken = absurd h
cut-same (At a) (InAttributeName t x n) r valid h taken = absurd h
cut-same (At a) (InCommentEnd s) r valid h taken = absurd h
cut-same (At a) (InStyle w y u) r valid h taken = absurd h
cut-same (At a) (InScript w y u) r valid h taken = absurd h
cut-same (At a) (InContentEnd e k) r valid h taken = absurd h
cut-same (At a) (InUrl v t z) r valid h taken = absurd h
cut-same (At a) (InStyleElement s k) r valid h taken = absurd h
cut-same (At a) (InScriptElement s k) r valid h taken = absurd h
cut-same (At a) (BeforeType t) r valid h taken = absurd h
cut-same (At a) (InType t q v z) r valid h taken = absurd h
cut-same (InAttributeName t x n) (InAttributeName u y m) r valid h taken = refl
cut-same (InAttributeName t x n) (At p) r valid h taken = absurd h
cut-same (InAttributeName t x n) AfterLess r valid h taken = absurd h
cut-same (InAttributeName t x n) AfterLessSolidus r valid h taken = absurd h
cut-same (InAttributeName t x n) (InDeclaration pending) r valid h taken = absurd h
cut-same (InAttributeName t x n) (InTagName ends name) r valid h taken = absurd h
cut-same (InAttributeName t x n) (InCommentEnd s) r valid h taken = absurd h
cut-same (InAttributeName t x n) (InStyle w y u) r valid h taken = absurd h
cut-same (InAttributeName t x n) (InScript w y u) r valid h taken = absurd h
cut-same (InAttributeName t x n) (InContentEnd e k) r valid h taken = absurd h
cut-same (InAttributeName t x n) (InUrl v u z) r valid h taken = absurd h
cut-same (InAttributeName t x n) (InStyleElement s k) r valid h taken = absurd h
cut-same (InAttributeName t x n) (InScriptElement s k) r valid h taken = absurd h
cut-same (InAttributeName t x n) (BeforeType u) r valid h taken = absurd h
cut-same (InAttributeName t x n) (InType u q v z) r valid h taken = absurd h
cut-same (InUrl v t z) (InUrl w u y) r valid h taken = refl
cut-same (InUrl v t z) (At p) r valid h taken = absurd h
cut-same (InUrl v t z) AfterLess r valid h taken = absurd h
cut-same (InUrl v t z) AfterLessSolidus r valid h taken = absurd h
cut-same (InUrl v t z) (InDeclaration pending) r valid h taken = absurd h
cut-same (InUrl v t z) (InTagName ends name) r valid h taken = absurd h
cut-same (InUrl v t z) (InAttributeName u x n) r valid h taken = absurd h
cut-same (InUrl v t z) (InCommentEnd s) r valid h taken = absurd h
cut-same (InUrl v t z) (InStyle w y u) r valid h taken = absurd h
cut-same (InUrl v t z) (InScript w y u) r valid h taken = absurd h
cut-same (InUrl v t z) (InStyleElement s k) r valid h taken = absurd h
cut-same (InUrl v t z) (InScriptElement s k) r valid h taken = absurd h
cut-same (InUrl v t z) (InContentEnd e k) r valid h taken = absurd h
cut-same (InUrl v t z) (BeforeType u) r valid h taken = absurd h
cut-same (InUrl v t z) (InType u q x y) r valid h taken = absurd h
cut-same (InStyle v s w) g r valid h taken = style-cut-same v s w g r h
cut-same (InScript v n z) (InScript w m y) r valid h taken = refl
cut-same (InScript v n z) g r valid h taken = absurd h
cut-same (InStyleElement s k) g r valid h taken = element-cut-same s k g r h taken
cut-same (InScriptElement n k) (InScriptElement m l) r valid h taken = script-element-cut-same n m k l r h.0 h.1 h.2 taken
cut-same (InScriptElement n k) g r valid h taken = absurd h
cut-same AfterLess g r valid h taken = ap (λ (z : Scan). scan_cut_out z r) h
cut-same AfterLessSolidus g r valid h taken = ap (λ (z : Scan). scan_cut_out z r) h
cut-same (InDeclaration pending) g r valid h taken = ap (λ (z : Scan). scan_cut_out z r) h
cut-same (InTagName ends name) g r valid h taken = ap (λ (z : Scan). scan_cut_out z r) h
cut-same (InCommentEnd s) g r valid h taken = ap (λ (z : Scan). scan_cut_out z r) h
cut-same (InContentEnd e k) g r valid h taken = ap (λ (z : Scan). scan_cut_out z r) h
cut-same (BeforeType t) g r valid h taken = ap (λ (z : Scan). scan_cut_out z r) h
cut-same (InType t q v w) g r valid h taken = ap (λ (z : Scan). scan_cut_out z r) h

-- The reference that is open in a state; none is told of what no path comes to: after a `<` in a title none is open any more.
abbrev pub opened : LexState ValueState → Option Reference
opened (Text r) = Some r
opened (TagOpen r) = Some r
opened (EndTagOpen r) = Some r
opened (DeclarationOpen r pending) = Some r
opened (AttributeValue q tag v r) = Some r
opened (InContent e (Characters r) Nothing) = Some r
opened (InContent e (Characters Closed) h) = Some Closed
opened (InContent e (Characters (Open f bytes)) h) = None
opened s = Some Closed

after-closed : (t : TagOf) → opened (after_tag languages t) ≡ Some Closed
after-closed which.End = refl
after-closed (which.Start element.Other) = refl
after-closed (which.Start element.Title) = refl
after-closed (which.Start element.Textarea) = refl
after-closed (which.Start element.Style) = refl
after-closed (which.Start element.Script) = refl
after-closed (which.Start element.DataBlock) = refl

before-closed : (c : Class) (b : ℕ) (tag : Tag) → opened (next_before_name languages c b tag) ≡ Some Closed
before-closed White b tag = refl
before-closed Solidus b tag = refl
before-closed GreaterThan b tag = after-closed tag.tag
before-closed _ b tag = refl

text-opens : (c : Class) (b : ℕ) → opened (next_text c b Closed) ≡ Some (begin_reference c)
text-opens LessThan b = refl
text-opens c b = refl

less-opens : (r : Reference) (c : Class) (b : ℕ) → opened (next_tag_open Template c b r) ≡ Some (less_open c r)
less-opens r (Letter l) b = refl
less-opens r Solidus b = refl
less-opens r ExclamationMark b = refl
less-opens r QuestionMark b = refl
less-opens r LessThan b = refl
less-opens r c b = refl

solidus-opens : (c : Class) (b : ℕ) → opened (next_end_tag_open Template c b) ≡ Some (begin_reference c)
solidus-opens (Letter l) b = refl
solidus-opens LessThan b = refl
solidus-opens c b = refl

declaration-opens : (n : Declaration) (r : Reference) (pending : List ℕ) (c : Class) (b : ℕ) → class_of b ≡ c → declared_by (pending ++ b ∷ []) ≡ n → opened (next_declaration n Template c b r pending) ≡ Some (declaration_open n c r)
declaration-opens OpensComment r pending c b e k = refl
declaration-opens OpensDoctype r pending c b e k = refl
declaration-opens Undecided r pending c b e k = refl
declaration-opens OpensNothing r pending c b e k = text-opens c b

tag-name-opens : (c : Class) (b : ℕ) (ends : Bool) (name : List ℕ) → opened (next_tag_name languages c b ends name) ≡ Some Closed
tag-name-opens White b ends name = refl
tag-name-opens Solidus b ends name = refl
tag-name-opens GreaterThan b ends name = after-closed (tag_of_name ends name)
tag-name-opens c b ends name = refl

name-opens : (c : Class) (b : ℕ) (tag : Tag) (k : Kind) (name : List ℕ) → opened (next_name languages c b tag k name) ≡ Some Closed
name-opens White b tag k name = refl
name-opens Solidus b tag k name = refl
name-opens GreaterThan b tag k name = after-closed (without_value tag k).tag
name-opens EqualsSign b tag k name = refl
name-opens c b tag k name = refl

after-name-opens : (c : Class) (b : ℕ) (tag : Tag) (k : Kind) → opened (next_after_name languages c b tag k) ≡ Some Closed
after-name-opens White b tag k = refl
after-name-opens Solidus b tag k = refl
after-name-opens GreaterThan b tag k = after-closed (without_value tag k).tag
after-name-opens EqualsSign b tag k = refl
after-name-opens c b tag k = refl

before-value-opens : (c : Class) (b : ℕ) (tag : Tag) (k : Kind) → opened (next_before_value languages c b tag k) ≡ Some (next_reference Closed c b)
before-value-opens White b tag k = refl
before-value-opens QuotationMark b tag k = refl
before-value-opens Apostrophe b tag k = refl
before-value-opens GreaterThan b tag k = after-closed (without_value tag k).tag
before-value-opens c b tag k = refl

comment-ends : (ended : Bool) → opened (comment_ended ended) ≡ Some Closed
comment-ends true = refl
comment-ends false = refl

comment-opens : (s : CommentState) (c : Class) → opened (next_in_comment c s) ≡ Some Closed
comment-opens s GreaterThan = comment-ends (closes_comment s)
comment-opens s c = refl

doctype-opens : (c : Class) → opened (next_in_doctype c) ≡ Some Closed
doctype-opens GreaterThan = refl
doctype-opens c = refl

never : false ≡ true → ⊥
never e = cc

-- a byte that ends a value ends a reference in it
value-ends : (q : Quoting) (c : Class) (b : ℕ) (r : Reference) → ends_value q c ≡ true → (as_it_stands r ++ b ∷ [] ≡ reference_out r c b) × (Closed ≡ next_reference r c b)
value-ends DoubleQuoted QuotationMark b Closed e = (refl, refl)
value-ends DoubleQuoted QuotationMark b (Open f h) e = (refl, refl)
value-ends SingleQuoted Apostrophe b Closed e = (refl, refl)
value-ends SingleQuoted Apostrophe b (Open f h) e = (refl, refl)
value-ends Unquoted White b Closed e = (refl, refl)
value-ends Unquoted White b (Open f h) e = (refl, refl)
value-ends Unquoted GreaterThan b Closed e = (refl, refl)
value-ends Unquoted GreaterThan b (Open f h) e = (refl, refl)
value-ends DoubleQuoted c b r e = absurd (never e)
value-ends SingleQuoted c b r e = absurd (never e)
value-ends Unquoted c b r e = absurd (never e)

after-value-opens : (q : Quoting) (c : Class) (b : ℕ) (tag : Tag) → opened (next_after_value languages q c b tag) ≡ Some Closed
after-value-opens DoubleQuoted c b tag = refl
after-value-opens SingleQuoted c b tag = refl
after-value-opens Unquoted c b tag = before-closed c b tag

value-writes : (ends : Bool) (q : Quoting) (tag : Tag) (v : Value ValueState) (r : Reference) (c : Class) (b : ℕ) → ends_value q c ≡ ends
    → (value_out ends c b r ≡ reference_out r c b) × (opened (next_value languages ends q c b tag v r) ≡ Some (next_reference r c b))
value-writes true q tag v r c b e = (let w = value-ends q c b r e in (w.0, after-value-opens q c b (tag_with_value tag (with_bytes languages v (settled true r))) ∙ ap Some w.1))
value-writes false q tag v r c b e = (refl, refl)

-- a title and a textarea
loose-opens : (e : Element) (r : Reference) (c : Class) (b : ℕ) → opened (next_loose languages c b e (Characters r)) ≡ Some (next_reference r c b)
loose-opens e Closed LessThan b = refl
loose-opens e (Open f h) LessThan b = refl
loose-opens e r c b = refl

content-less-opens : (e : Element) (c : Class) (b : ℕ) → opened (next_less languages c b e (Characters Closed)) ≡ Some (begin_reference c)
content-less-opens e Solidus b = refl
content-less-opens e ExclamationMark b = refl
content-less-opens e LessThan b = refl
content-less-opens e c b = refl

end-name-opens : (grows whole : Bool) (e : Element) (letters : List ℕ) (c : Class) (b : ℕ) → opened (next_end_name languages grows whole c b e (Characters Closed) letters) ≡ Some (begin_reference c)
end-name-opens true whole e letters (Letter l) b = refl
end-name-opens grows true e letters White b = refl
end-name-opens grows true e letters Solidus b = refl
end-name-opens grows true e letters GreaterThan b = refl
end-name-opens grows whole e letters c b = loose-opens e Closed c b

-- a data block
block-loose-opens : (e : Element) (c : Class) (b : ℕ) → opened (next_loose languages c b e Bytes) ≡ Some Closed
block-loose-opens e LessThan b = refl
block-loose-opens e c b = refl

block-end-opens : (grows whole : Bool) (e : Element) (letters : List ℕ) (c : Class) (b : ℕ) → opened (next_end_name languages grows whole c b e Bytes letters) ≡ Some Closed
block-end-opens true whole e letters (Letter l) b = refl
block-end-opens grows true e letters White b = refl
block-end-opens grows true e letters Solidus b = refl
block-end-opens grows true e letters GreaterThan b = refl
block-end-opens grows whole e letters c b = block-loose-opens e c b

block-less-opens : (e : Element) (c : Class) (b : ℕ) → opened (next_less languages c b e Bytes) ≡ Some Closed
block-less-opens e Solidus b = refl
block-less-opens e ExclamationMark b = refl
block-less-opens e LessThan b = refl
block-less-opens e c b = refl

block-bang-opens : (e : Element) (c : Class) (b : ℕ) → opened (next_bang languages c b e Bytes) ≡ Some Closed
block-bang-opens e HyphenMinus b = refl
block-bang-opens e LessThan b = refl
block-bang-opens e c b = refl

block-opens : (h : Pending) (e : Element) (c : Class) (b : ℕ) → opened (next_in_content languages h c b e Bytes) ≡ Some Closed
block-opens Nothing e c b = block-loose-opens e c b
block-opens PendingLess e c b = block-less-opens e c b
block-opens LessAtCut e c b = block-loose-opens e c b
block-opens (PendingName letters) e c b = block-end-opens (may_be_name_of e (letters ++ b ∷ [])) (is_name_of e letters) e letters c b
block-opens PendingBang e c b = block-bang-opens e c b
block-opens PendingBangDash e c b = block-loose-opens e c b
block-opens (PendingOpening letters) e c b = block-loose-opens e c b

-- A state and its scan state: what is written at a byte, and the reference that is open after it.
record Writes (s : LexState ValueState) (f : Scan) (c : Class) (b : ℕ) (r : Reference) : Type 0 where
  outs : out languages s c b ≡ scan_out f c b r
  opens : opened (next languages Template s c b) ≡ Some (scan_open f c b r)

abbrev WritesAt : LexState ValueState → Class → ℕ → Type 0
WritesAt s c b = WhereScanned (scanned s) (λ f. (r : Reference) → opened s ≡ Some r → scan_error f c b ≡ None → Writes s f c b r)

at-one : (s : LexState ValueState) (f : Scan) (c : Class) (b : ℕ) (a r : Reference) → Some a ≡ Some r → Writes s f c b a → Writes s f c b r
at-one s f c b a r e w = subst (Writes s f c b) (one_value a r e) w

text-writes : (a : Reference) (c : Class) (b : ℕ) → Writes (Text a) (At place.Text) c b a
text-writes a LessThan b = record { outs = refl; opens = refl }
text-writes a c b = record { outs = refl; opens = refl }

comment-writes : (s : CommentState) (c : Class) (b : ℕ) → WritesAt (InComment s) c b
comment-writes Started c b = λ r e taken. at-one (InComment Started) _ c b Closed r e (record { outs = refl; opens = comment-opens Started c })
comment-writes StartedDash c b = λ r e taken. at-one (InComment StartedDash) _ c b Closed r e (record { outs = refl; opens = comment-opens StartedDash c })
comment-writes Inside c b = λ r e taken. at-one (InComment Inside) _ c b Closed r e (record { outs = refl; opens = comment-opens Inside c })
comment-writes Dash c b = λ r e taken. at-one (InComment Dash) _ c b Closed r e (record { outs = refl; opens = comment-opens Dash c })
comment-writes DashDash c b = λ r e taken. at-one (InComment DashDash) _ c b Closed r e (record { outs = refl; opens = comment-opens DashDash c })
comment-writes Bang c b = λ r e taken. at-one (InComment Bang) _ c b Closed r e (record { outs = refl; opens = comment-opens Bang c })
comment-writes Broken c b = λ r e taken. at-one (InComment Broken) _ c b Closed r e (record { outs = refl; opens = comment-opens Broken c })

-- where a second `type` is not refused
where-first : (second : Bool) (f : Scan) (P : Scan → Type 0) → P f → WhereScanned (if second then None else Some f) P
where-first true f P h = tt
where-first false f P h = h

abbrev WritesFrom : LexState ValueState → Class → ℕ → Scan → Type 0
WritesFrom s c b f = (r : Reference) → opened s ≡ Some r → scan_error f c b ≡ None → Writes s f c b r

before-value-writes : (tag : Tag) (k : Kind) (c : Class) (b : ℕ) → WritesAt (BeforeAttributeValue tag k) c b
before-value-writes tag kind.Plain c b = λ r e taken. at-one (BeforeAttributeValue tag kind.Plain) _ c b Closed r e (record { outs = refl; opens = before-value-opens c b tag kind.Plain })
before-value-writes tag kind.NoHole c b = λ r e taken. at-one (BeforeAttributeValue tag kind.NoHole) _ c b Closed r e (record { outs = refl; opens = before-value-opens c b tag kind.NoHole })
before-value-writes tag kind.Url c b =
    λ r e taken. at-one (BeforeAttributeValue tag kind.Url) _ c b Closed r e (record { outs = refl; opens = before-value-opens c b tag kind.Url })
before-value-writes tag kind.Script c b =
    λ r e taken. at-one (BeforeAttributeValue tag kind.Script) _ c b Closed r e (record { outs = refl; opens = before-value-opens c b tag kind.Script })
before-value-writes tag kind.Style c b =
    λ r e taken. at-one (BeforeAttributeValue tag kind.Style) _ c b Closed r e (record { outs = refl; opens = before-value-opens c b tag kind.Style })
before-value-writes tag kind.ScriptType c b =
    where-first (is_second_type tag.typed kind.ScriptType) (BeforeType tag.tag) (WritesFrom (BeforeAttributeValue tag kind.ScriptType) c b)
    (λ r e taken. at-one (BeforeAttributeValue tag kind.ScriptType) (BeforeType tag.tag) c b Closed r e (record { outs = refl; opens = before-value-opens c b tag kind.ScriptType }))

value-writes-at : (q : Quoting) (tag : Tag) (k : ValueState) (a : Reference) (v : ValuePlace) (c : Class) (b : ℕ)
    → Writes (AttributeValue q tag (ValueOf k) a) (At (place.Value v)) c b a
value-writes-at q tag k a v c b = (let w = value-writes (ends_value q c) q tag (ValueOf k) a c b refl in record { outs = w.0; opens = w.1 })

url-writes-at : (q : Quoting) (tag : Tag) (k : ValueState) (a : Reference) (v : ValuePlace) (t : Triple) (z : Reference) (c : Class) (b : ℕ)
    → Writes (AttributeValue q tag (ValueOf k) a) (InUrl v t z) c b a
url-writes-at q tag k a v t z c b = (let w = value-writes (ends_value q c) q tag (ValueOf k) a c b refl in record { outs = w.0; opens = w.1 })

-- a URL, in a percent triple or a reference, or in neither
url-writes : (q : Quoting) (tag : Tag) (k : ValueState) (a : Reference) (v : ValuePlace) (t : Triple) (z : Reference) (c : Class) (b : ℕ)
    → Writes (AttributeValue q tag (ValueOf k) a) (url_scan v t z) c b a
url-writes q tag k a v NoTriple Closed c b = value-writes-at q tag k a v c b
url-writes q tag k a v NoTriple (Open f h) c b = url-writes-at q tag k a v NoTriple (Open f h) c b
url-writes q tag k a v AfterPercent z c b = url-writes-at q tag k a v AfterPercent z c b
url-writes q tag k a v AfterDigit z c b = url-writes-at q tag k a v AfterDigit z c b

-- a style, in a lexeme or a reference, or at a place
style-writes-at : (q : Quoting) (tag : Tag) (k : ValueState) (a : Reference) (v : ValuePlace) (n : StyleScan) (z : Reference) (c : Class) (b : ℕ)
    → Writes (AttributeValue q tag (ValueOf k) a) (InStyle v n z) c b a
style-writes-at q tag k a v n z c b = (let w = value-writes (ends_value q c) q tag (ValueOf k) a c b refl in record { outs = w.0; opens = w.1 })

style-writes-if : (starts : Bool) (q : Quoting) (tag : Tag) (k : ValueState) (a : Reference) (v : ValuePlace) (n : StyleScan) (c : Class) (b : ℕ)
    → Writes (AttributeValue q tag (ValueOf k) a) (if starts then At (with_style v n) else InStyle v n Closed) c b a
style-writes-if true q tag k a v n c b = value-writes-at q tag k a _ c b
style-writes-if false q tag k a v n c b = style-writes-at q tag k a v n Closed c b

style-writes : (q : Quoting) (tag : Tag) (k : ValueState) (a : Reference) (v : ValuePlace) (n : StyleScan) (z : Reference) (c : Class) (b : ℕ)
    → Writes (AttributeValue q tag (ValueOf k) a) (style_scan v n z) c b a
style-writes q tag k a v n Closed c b = style-writes-if (is_style_start n) q tag k a v n c b
style-writes q tag k a v n (Open f h) c b = style-writes-at q tag k a v n (Open f h) c b

style-scan-writes : (q : Quoting) (tag : Tag) (s : Style Url) (o : Option StyleScan) (a : Reference) (c : Class) (b : ℕ)
    → WhereScanned (style_value_scanned q tag o a) (WritesFrom (AttributeValue q tag (ValueOf (OfStyle s)) a) c b)
style-scan-writes q tag s None a c b = tt
style-scan-writes q tag s (Some n) a c b =
    λ r e taken. at-one (AttributeValue q tag (ValueOf (OfStyle s)) a) _ c b a r e (style-writes q tag (OfStyle s) a _ n a c b)

-- a script, at a place, or behind a byte of the text
script-writes-at : (q : Quoting) (tag : Tag) (k : ValueState) (a : Reference) (v : ValuePlace) (n : ScriptScan) (z : Reference) (c : Class) (b : ℕ)
    → Writes (AttributeValue q tag (ValueOf k) a) (InScript v n z) c b a
script-writes-at q tag k a v n z c b = (let w = value-writes (ends_value q c) q tag (ValueOf k) a c b refl in record { outs = w.0; opens = w.1 })

script-there-writes : (q : Quoting) (tag : Tag) (s : ScriptState) (o : Option ScriptScan) (a : Reference) (c : Class) (b : ℕ)
    → WhereScanned (script_there q tag o a) (WritesFrom (AttributeValue q tag (ValueOf (OfScript s)) a) c b)
script-there-writes q tag s None a c b = tt
script-there-writes q tag s (Some n) a c b =
    λ r e taken. at-one (AttributeValue q tag (ValueOf (OfScript s)) a) _ c b a r e (script-writes-at q tag (OfScript s) a _ n a c b)

script-placed-writes : (q : Quoting) (tag : Tag) (s : ScriptState) (x : Option Body) (o : Option ScriptScan) (c : Class) (b : ℕ)
    → WhereScanned (script_unless_placed q tag x o) (WritesFrom (AttributeValue q tag (ValueOf (OfScript s)) Closed) c b)
script-placed-writes q tag s (Some x) o c b =
    λ r e taken. at-one (AttributeValue q tag (ValueOf (OfScript s)) Closed) _ c b Closed r e (value-writes-at q tag (OfScript s) Closed _ c b)
script-placed-writes q tag s None o c b = script-there-writes q tag s o Closed c b

script-scan-writes : (q : Quoting) (tag : Tag) (s : ScriptState) (a : Reference) (c : Class) (b : ℕ)
    → WhereScanned (script_value_scanned q tag s a) (WritesFrom (AttributeValue q tag (ValueOf (OfScript s)) a) c b)
script-scan-writes q tag s Closed c b = script-placed-writes q tag s (script_body s) (kept_script_scanned s) c b
script-scan-writes q tag s (Open f bytes) c b = script-there-writes q tag s (kept_script_scanned s) (Open f bytes) c b

in-value-writes : (q : Quoting) (tag : Tag) (v : Value ValueState) (a : Reference) (c : Class) (b : ℕ) → WritesAt (AttributeValue q tag v a) c b
in-value-writes q tag (ValueOf (OfKind kind.Plain)) a c b =
    λ r e taken. at-one (AttributeValue q tag (ValueOf (OfKind kind.Plain)) a) _ c b a r e (value-writes-at q tag (OfKind kind.Plain) a _ c b)
in-value-writes q tag (ValueOf (OfKind kind.NoHole)) a c b =
    λ r e taken. at-one (AttributeValue q tag (ValueOf (OfKind kind.NoHole)) a) _ c b a r e (value-writes-at q tag (OfKind kind.NoHole) a _ c b)
in-value-writes q tag (ValueOf (OfKind kind.Url)) a c b = tt
in-value-writes q tag (ValueOf (OfKind kind.Script)) a c b = tt
in-value-writes q tag (ValueOf (OfKind kind.Style)) a c b = tt
in-value-writes q tag (ValueOf (OfKind kind.ScriptType)) a c b = tt
in-value-writes q tag (ValueOf (OfUrl u)) a c b =
    λ r e taken. at-one (AttributeValue q tag (ValueOf (OfUrl u)) a) (url_scanned q tag u a) c b a r e (url-writes q tag (OfUrl u) a _ u.triple a c b)
in-value-writes q tag (ValueOf (OfStyle s)) a c b = style-scan-writes q tag s (style_scanned s) a c b
in-value-writes q tag (ValueOf (OfScript s)) a c b = script-scan-writes q tag s a c b
in-value-writes q tag (Deciding kind.ScriptType before) a c b =
    let s = AttributeValue q tag (Deciding kind.ScriptType before) a in
    let f = InType tag.tag q (Deciding kind.ScriptType before) a in
    let w = value-writes (ends_value q c) q tag (Deciding kind.ScriptType before) a c b refl in
    where-first (is_second_type tag.typed kind.ScriptType) f (WritesFrom s c b) (λ r e taken. at-one s f c b a r e (record { outs = w.0; opens = w.1 }))
in-value-writes q tag (Deciding _ before) a c b = tt

not-open : (r : Reference) → None ≡ Some r → ⊥
not-open r e = cc

none-scanned : (e : Element) (h : Pending) (a : Reference) (c : Class) (b : ℕ) → content_scanned h e ≡ None → WritesAt (InContent e (Characters a) h) c b
none-scanned e h a c b n = subst (λ (o : Option Scan). WhereScanned o (λ f. (r : Reference) → opened (InContent e (Characters a) h) ≡ Some r → scan_error f c b ≡ None → Writes (InContent e (Characters a) h) f c b r)) (sym n) tt

no-scan : (h : Pending) → (content_scanned h element.Other ≡ None) × (content_scanned h element.Style ≡ None) × (content_scanned h element.Script ≡ None) × (content_scanned h element.DataBlock ≡ None)
no-scan Nothing = (refl, refl, refl, refl)
no-scan PendingLess = (refl, refl, refl, refl)
no-scan (PendingName letters) = (refl, refl, refl, refl)
no-scan LessAtCut = (refl, refl, refl, refl)
no-scan PendingBang = (refl, refl, refl, refl)
no-scan PendingBangDash = (refl, refl, refl, refl)
no-scan (PendingOpening letters) = (refl, refl, refl, refl)

content-writes : (e : Element) (a : Reference) (h : Pending) (c : Class) (b : ℕ) → WritesAt (InContent e (Characters a) h) c b
content-writes element.Title a Nothing c b = λ r e taken. at-one (InContent element.Title (Characters a) Nothing) _ c b a r e (record { outs = refl; opens = loose-opens element.Title a c b })
content-writes element.Textarea a Nothing c b = λ r e taken. at-one (InContent element.Textarea (Characters a) Nothing) _ c b a r e (record { outs = refl; opens = loose-opens element.Textarea a c b })
content-writes element.Title Closed PendingLess c b = λ r e taken. at-one (InContent element.Title (Characters Closed) PendingLess) _ c b Closed r e (record { outs = refl; opens = content-less-opens element.Title c b })
content-writes element.Textarea Closed PendingLess c b = λ r e taken. at-one (InContent element.Textarea (Characters Closed) PendingLess) _ c b Closed r e (record { outs = refl; opens = content-less-opens element.Textarea c b })
content-writes element.Title Closed (PendingName letters) c b =
    λ r e taken. at-one (InContent element.Title (Characters Closed) (PendingName letters)) _ c b Closed r e
    (record { outs = refl; opens = end-name-opens (may_be_name_of element.Title (letters ++ b ∷ [])) (is_name_of element.Title letters) element.Title letters c b })
content-writes element.Textarea Closed (PendingName letters) c b =
    λ r e taken. at-one (InContent element.Textarea (Characters Closed) (PendingName letters)) _ c b Closed r e
    (record { outs = refl; opens = end-name-opens (may_be_name_of element.Textarea (letters ++ b ∷ [])) (is_name_of element.Textarea letters) element.Textarea letters c b })
content-writes element.Title (Open f bytes) PendingLess c b = λ r e taken. absurd (not-open r e)
content-writes element.Title (Open f bytes) (PendingName letters) c b = λ r e taken. absurd (not-open r e)
content-writes element.Textarea (Open f bytes) PendingLess c b = λ r e taken. absurd (not-open r e)
content-writes element.Textarea (Open f bytes) (PendingName letters) c b = λ r e taken. absurd (not-open r e)
content-writes element.Title a LessAtCut c b = tt
content-writes element.Title a PendingBang c b = tt
content-writes element.Title a PendingBangDash c b = tt
content-writes element.Title a (PendingOpening letters) c b = tt
content-writes element.Textarea a LessAtCut c b = tt
content-writes element.Textarea a PendingBang c b = tt
content-writes element.Textarea a PendingBangDash c b = tt
content-writes element.Textarea a (PendingOpening letters) c b = tt
content-writes element.Other a h c b = none-scanned element.Other h a c b (no-scan h).0
content-writes element.Style a h c b = none-scanned element.Style h a c b (no-scan h).1
content-writes element.Script a h c b = none-scanned element.Script h a c b (no-scan h).2
content-writes element.DataBlock a h c b = none-scanned element.DataBlock h a c b (no-scan h).3

block-writes : (e : Element) (h : Pending) (c : Class) (b : ℕ) → WritesAt (InContent e Bytes h) c b
block-writes element.DataBlock Nothing c b = λ r e taken. at-one (InContent element.DataBlock Bytes Nothing) _ c b Closed r e (record { outs = refl; opens = block-opens Nothing element.DataBlock c b })
block-writes element.DataBlock PendingLess c b = λ r e taken. at-one (InContent element.DataBlock Bytes PendingLess) _ c b Closed r e (record { outs = refl; opens = block-opens PendingLess element.DataBlock c b })
block-writes element.DataBlock LessAtCut c b = λ r e taken. at-one (InContent element.DataBlock Bytes LessAtCut) _ c b Closed r e (record { outs = refl; opens = block-opens LessAtCut element.DataBlock c b })
block-writes element.DataBlock (PendingName letters) c b = λ r e taken. at-one (InContent element.DataBlock Bytes (PendingName letters)) _ c b Closed r e (record { outs = refl; opens = block-opens (PendingName letters) element.DataBlock c b })
block-writes element.DataBlock PendingBang c b = λ r e taken. at-one (InContent element.DataBlock Bytes PendingBang) _ c b Closed r e (record { outs = refl; opens = block-opens PendingBang element.DataBlock c b })
block-writes element.DataBlock PendingBangDash c b = λ r e taken. at-one (InContent element.DataBlock Bytes PendingBangDash) _ c b Closed r e (record { outs = refl; opens = block-opens PendingBangDash element.DataBlock c b })
block-writes e Nothing c b = tt
block-writes e PendingLess c b = tt
block-writes e LessAtCut c b = tt
block-writes e (PendingName letters) c b = tt
block-writes e PendingBang c b = tt
block-writes e PendingBangDash c b = tt
block-writes element.DataBlock (PendingOpening letters) c b = tt
block-writes e (PendingOpening letters) c b = tt

-- the element `style`
language-loose-opens : (e : Element) (v : ValueState) (c : Class) (b : ℕ) → opened (next_loose languages c b e (InLanguage v)) ≡ Some Closed
language-loose-opens e v LessThan b = refl
language-loose-opens e v c b = refl

language-less-opens : (e : Element) (v : ValueState) (c : Class) (b : ℕ) → opened (next_less languages c b e (InLanguage v)) ≡ Some Closed
language-less-opens e v Solidus b = refl
language-less-opens e v c b = language-loose-opens e (fed_state languages v (codes "<")) c b

language-end-opens : (grows whole : Bool) (e : Element) (v : ValueState) (letters : List ℕ) (c : Class) (b : ℕ) → opened (next_end_name languages grows whole c b e (InLanguage v) letters) ≡ Some Closed
language-end-opens true whole e v letters (Letter l) b = refl
language-end-opens grows true e v letters White b = refl
language-end-opens grows true e v letters Solidus b = refl
language-end-opens grows true e v letters GreaterThan b = refl
language-end-opens grows whole e v letters c b = language-loose-opens e (fed_state languages v (codes "</" ++ letters)) c b

style-writes-in : (s : Style Url) (n : StyleScan) (h : Pending) (c : Class) (b : ℕ) → IsStyleScan s n
    → WhereScanned (element_scanned h n) (WritesFrom (InContent element.Style (InLanguage (OfStyle s)) h) c b)
style-writes-in s n Nothing c b i = λ r e taken.
    at-one (InContent element.Style (InLanguage (OfStyle s)) Nothing) (element_scan n) c b Closed r e (record {
      outs = content-same paths-write element.Style Nothing c b (OfStyle s) n i (sym (element-scan-error n c b) ∙ taken) ∙ sym (element-out n c b Closed);
      opens = language-loose-opens element.Style (OfStyle s) c b ∙ ap Some (sym (element-open n c b Closed));
    })
style-writes-in s n PendingLess c b i = λ r e taken.
    at-one (InContent element.Style (InLanguage (OfStyle s)) PendingLess) (InStyleElement n PendingLess) c b Closed r e
    (record { outs = content-same paths-write element.Style PendingLess c b (OfStyle s) n i taken; opens = language-less-opens element.Style (OfStyle s) c b })
style-writes-in s n (PendingName letters) c b i = λ r e taken.
    at-one (InContent element.Style (InLanguage (OfStyle s)) (PendingName letters)) (InStyleElement n (PendingName letters)) c b Closed r e (record {
      outs = content-same paths-write element.Style (PendingName letters) c b (OfStyle s) n i taken;
      opens = language-end-opens (may_be_name_of element.Style (letters ++ b ∷ [])) (is_name_of element.Style letters) element.Style (OfStyle s) letters c b;
    })
style-writes-in s n LessAtCut c b i = tt
style-writes-in s n PendingBang c b i = tt
style-writes-in s n PendingBangDash c b i = tt
style-writes-in s n (PendingOpening letters) c b i = tt

style-element-writes : (s : Style Url) (h : Pending) (o : Option StyleScan) (c : Class) (b : ℕ) → style_scanned s ≡ o
    → WhereScanned (style_element_scanned h o) (WritesFrom (InContent element.Style (InLanguage (OfStyle s)) h) c b)
style-element-writes s h None c b e = tt
style-element-writes s h (Some n) c b e = style-writes-in s n h c b (exact-on-one-style.has_scan s n e)

-- the element `script`
behind-tag-opens : (c : Class) → opened (behind_end_tag {B = ValueState} c) ≡ Some Closed
behind-tag-opens White = refl
behind-tag-opens Solidus = refl
behind-tag-opens c = refl

step-opens : (x : ScriptStep) (c : Class) (e : Element) (v : ScriptState) → opened (next_by_step languages x c e (OfScript v)) ≡ Some Closed
step-opens (Reads bytes h) c e v = refl
step-opens (EndsContent letters) c e v = behind-tag-opens c

script-writes-in : (v : ScriptState) (h : Pending) (c : Class) (b : ℕ) → class_of b ≡ c
    → WhereScanned (script_element_scanned h v) (WritesFrom (InContent element.Script (InLanguage (OfScript v)) h) c b)
script-writes-in v h c b i =
    let s = InContent element.Script (InLanguage (OfScript v)) h in
    let opens = step-opens (script_step (script_may_end v) element.Script h c b) c element.Script v in
    where-script-element h v (WritesFrom s c b)
    (λ j e k. let o = one-stand v j (ap (option_map body.Js) k) in
    subst (λ (g : Pending). WritesFrom (InContent element.Script (InLanguage (OfScript v)) g) c b (At (place.Script j))) (sym e)
    (λ r z taken. at-one (InContent element.Script (InLanguage (OfScript v)) Nothing) (At (place.Script j)) c b Closed r z (record {
      outs = script-out-same script-paths-write element.Script Nothing c b v (script_scan_start j) o.scanned i (path-mode v (script_scan_start j) Nothing o.scanned) taken;
      opens = step-opens (script_step (script_may_end v) element.Script Nothing c b) c element.Script v;
    })))
    (λ n k r z taken. at-one s (InScriptElement n h) c b Closed r z (record {
      outs = script-out-same script-paths-write element.Script h c b v n k i (path-mode v n h k) taken;
      opens = opens;
    }))

language-writes : (e : Element) (v : ValueState) (h : Pending) (c : Class) (b : ℕ) → class_of b ≡ c → WritesAt (InContent e (InLanguage v) h) c b
language-writes element.Style (OfStyle s) h c b k = style-element-writes s h (style_scanned s) c b refl
language-writes element.Script (OfScript v) h c b k = script-writes-in v h c b k
language-writes e v h c b k = tt

writes : (s : LexState ValueState) (c : Class) (b : ℕ) → class_of b ≡ c → WritesAt s c b
writes (Text a) c b k = λ r e taken. at-one (Text a) (At place.Text) c b a r e (text-writes a c b)
writes (TagOpen a) c b k = λ r e taken. at-one (TagOpen a) AfterLess c b a r e (record { outs = refl; opens = less-opens a c b })
writes (EndTagOpen a) c b k = λ r e taken. at-one (EndTagOpen a) AfterLessSolidus c b a r e (record { outs = refl; opens = solidus-opens c b })
writes (DeclarationOpen a pending) c b k = λ r e taken. at-one (DeclarationOpen a pending) (InDeclaration pending) c b a r e (record { outs = refl; opens = declaration-opens (declared_by (pending ++ b ∷ [])) a pending c b k refl })
writes (InComment s) c b k = comment-writes s c b
writes BogusComment c b k = tt
writes InDoctype c b k = λ r e taken. at-one InDoctype (At place.Doctype) c b Closed r e (record { outs = refl; opens = doctype-opens c })
writes (TagName ends name) c b k = λ r e taken. at-one (TagName ends name) (InTagName ends name) c b Closed r e (record { outs = refl; opens = tag-name-opens c b ends name })
writes (WholeTagName t) c b k = λ r e taken. at-one (WholeTagName t) _ c b Closed r e (record { outs = refl; opens = before-closed c b t })
writes (BeforeAttributeName t) c b k = λ r e taken. at-one (BeforeAttributeName t) _ c b Closed r e (record { outs = refl; opens = before-closed c b t })
writes (AttributeName t name) c b k = λ r e taken. at-one (AttributeName t name) _ c b Closed r e (record { outs = refl; opens = name-opens c b t (kind_of (element_on t.tag) name) name })
writes (WholeAttributeName t j) c b k =
    let f = At (place.Tag (tag_spot t only_inside (Some j))) in
    where-first (is_second_type t.typed j) f (WritesFrom (WholeAttributeName t j) c b) (λ r e taken. at-one (WholeAttributeName t j) f c b Closed r e (record { outs = refl; opens = after-name-opens c b t j }))
writes (AfterAttributeName t j) c b k =
    let f = At (place.Tag (tag_spot t only_after (Some j))) in
    where-first (is_second_type t.typed j) f (WritesFrom (AfterAttributeName t j) c b) (λ r e taken. at-one (AfterAttributeName t j) f c b Closed r e (record { outs = refl; opens = after-name-opens c b t j }))
writes (BeforeAttributeValue t j) c b k = before-value-writes t j c b
writes (AttributeValue q t v a) c b k = in-value-writes q t v a c b
writes (AfterAttributeValue t) c b k = λ r e taken. at-one (AfterAttributeValue t) _ c b Closed r e (record { outs = refl; opens = before-closed c b t })
writes (SelfClosingStartTag t) c b k = λ r e taken. at-one (SelfClosingStartTag t) _ c b Closed r e (record { outs = refl; opens = before-closed c b t })
writes (InContent x (Characters a) h) c b k = content-writes x a h c b
writes (InContent x Bytes h) c b k = block-writes x h c b
writes (InContent x (InLanguage v) h) c b k = language-writes x v h c b k

-- likewise, and at the end of a text
abbrev CutAt : LexState ValueState → Type 0
CutAt s = WhereScanned (scanned s) (λ f. (r : Reference) → opened s ≡ Some r → scan_cut_error f ≡ None → cut_out languages s ≡ scan_cut_out f r)

abbrev CutFrom : LexState ValueState → Scan → Type 0
CutFrom s f = (r : Reference) → opened s ≡ Some r → scan_cut_error f ≡ None → cut_out languages s ≡ scan_cut_out f r

by-one : (f : Scan) (a r : Reference) (bytes : List ℕ) → Some a ≡ Some r → bytes ≡ scan_cut_out f a → bytes ≡ scan_cut_out f r
by-one f a r bytes e h = subst (λ (z : Reference). bytes ≡ scan_cut_out f z) (one_value a r e) h

no-cut : (e : Element) (a : Reference) (h : Pending) → content_scanned h e ≡ None → CutAt (InContent e (Characters a) h)
no-cut e a h n = subst (λ (o : Option Scan). WhereScanned o (λ f. (r : Reference) → opened (InContent e (Characters a) h) ≡ Some r → scan_cut_error f ≡ None → cut_out languages (InContent e (Characters a) h) ≡ scan_cut_out f r)) (sym n) tt

content-cuts : (e : Element) (a : Reference) (h : Pending) → CutAt (InContent e (Characters a) h)
content-cuts element.Title a Nothing = λ r e taken. by-one (At (place.Rcdata element.Title)) a r _ e refl
content-cuts element.Textarea a Nothing = λ r e taken. by-one (At (place.Rcdata element.Textarea)) a r _ e refl
content-cuts element.Title Closed PendingLess = λ r e taken. refl
content-cuts element.Textarea Closed PendingLess = λ r e taken. refl
content-cuts element.Title Closed (PendingName letters) = λ r e taken. refl
content-cuts element.Textarea Closed (PendingName letters) = λ r e taken. refl
content-cuts element.Title (Open f bytes) PendingLess = λ r e taken. refl
content-cuts element.Textarea (Open f bytes) PendingLess = λ r e taken. refl
content-cuts element.Title (Open f bytes) (PendingName letters) = λ r e taken. refl
content-cuts element.Textarea (Open f bytes) (PendingName letters) = λ r e taken. refl
content-cuts element.Title a LessAtCut = tt
content-cuts element.Title a PendingBang = tt
content-cuts element.Title a PendingBangDash = tt
content-cuts element.Title a (PendingOpening letters) = tt
content-cuts element.Textarea a LessAtCut = tt
content-cuts element.Textarea a PendingBang = tt
content-cuts element.Textarea a PendingBangDash = tt
content-cuts element.Textarea a (PendingOpening letters) = tt
content-cuts element.Other a h = no-cut element.Other a h (no-scan h).0
content-cuts element.Style a h = no-cut element.Style a h (no-scan h).1
content-cuts element.Script a h = no-cut element.Script a h (no-scan h).2
content-cuts element.DataBlock a h = no-cut element.DataBlock a h (no-scan h).3

block-cuts : (e : Element) (h : Pending) → CutAt (InContent e Bytes h)
block-cuts element.DataBlock Nothing = λ r e taken. by-one (At place.Text) Closed r _ e refl
block-cuts element.DataBlock LessAtCut = λ r e taken. by-one (At place.Text) Closed r _ e refl
block-cuts element.DataBlock PendingLess = λ r e taken. refl
block-cuts element.DataBlock (PendingName letters) = λ r e taken. refl
block-cuts element.DataBlock PendingBang = λ r e taken. refl
block-cuts element.DataBlock PendingBangDash = λ r e taken. refl
block-cuts e Nothing = tt
block-cuts e PendingLess = tt
block-cuts e LessAtCut = tt
block-cuts e (PendingName letters) = tt
block-cuts e PendingBang = tt
block-cuts e PendingBangDash = tt
block-cuts element.DataBlock (PendingOpening letters) = tt
block-cuts e (PendingOpening letters) = tt

style-cuts-in : (s : Style Url) (n : StyleScan) (h : Pending) → IsStyleScan s n → WhereScanned (element_scanned h n) (CutFrom (InContent element.Style (InLanguage (OfStyle s)) h))
style-cuts-in s n Nothing i = λ r e taken. paths-write.cuts (OfStyle s) n i ∙ sym (element-cut n r)
style-cuts-in s n PendingLess i = λ r e taken.
    content-cut-same paths-write PendingLess (OfStyle s) n i (first-caused (pending_error style_feeding n (codes "<")) (split_error style_less_cause n PendingLess) taken).0
style-cuts-in s n (PendingName letters) i = λ r e taken.
    content-cut-same paths-write (PendingName letters) (OfStyle s) n i (first-caused (pending_error style_feeding n (codes "</" ++ letters)) (split_error style_less_cause n (PendingName letters)) taken).0
style-cuts-in s n LessAtCut i = tt
style-cuts-in s n PendingBang i = tt
style-cuts-in s n PendingBangDash i = tt
style-cuts-in s n (PendingOpening letters) i = tt

style-element-cuts : (s : Style Url) (h : Pending) (o : Option StyleScan) → style_scanned s ≡ o → WhereScanned (style_element_scanned h o) (CutFrom (InContent element.Style (InLanguage (OfStyle s)) h))
style-element-cuts s h None e = tt
style-element-cuts s h (Some n) e = style-cuts-in s n h (exact-on-one-style.has_scan s n e)

script-cuts-in : (v : ScriptState) (h : Pending) → WhereScanned (script_element_scanned h v) (CutFrom (InContent element.Script (InLanguage (OfScript v)) h))
script-cuts-in v h =
    where-script-element h v (CutFrom (InContent element.Script (InLanguage (OfScript v)) h))
    (λ j e k. let o = one-stand v j (ap (option_map body.Js) k) in
    subst (λ (g : Pending). CutFrom (InContent element.Script (InLanguage (OfScript v)) g) (At (place.Script j))) (sym e)
    (λ r z taken. nothing-cut v ∙ path-ends v (script_scan_start j) o.scanned))
    (λ n k r z taken. script-cut-same script-paths-write h v n k (path-mode v n h k) taken)

language-cuts : (e : Element) (v : ValueState) (h : Pending) → CutAt (InContent e (InLanguage v) h)
language-cuts element.Style (OfStyle s) h = style-element-cuts s h (style_scanned s) refl
language-cuts element.Script (OfScript v) h = script-cuts-in v h
language-cuts e v h = tt

url-cuts : (v : ValuePlace) (t : Triple) (z r : Reference) → text_escaped r ≡ scan_cut_out (url_scan v t z) r
url-cuts v NoTriple Closed r = refl
url-cuts v NoTriple (Open f h) r = refl
url-cuts v AfterPercent z r = refl
url-cuts v AfterDigit z r = refl

style-cuts-if : (starts : Bool) (v : ValuePlace) (n : StyleScan) (r : Reference)
    → text_escaped r ≡ scan_cut_out (if starts then At (with_style v n) else InStyle v n Closed) r
style-cuts-if true v n r = refl
style-cuts-if false v n r = refl

style-cuts : (v : ValuePlace) (n : StyleScan) (z r : Reference) → text_escaped r ≡ scan_cut_out (style_scan v n z) r
style-cuts v n Closed r = style-cuts-if (is_style_start n) v n r
style-cuts v n (Open f h) r = refl

style-scan-cuts : (q : Quoting) (tag : Tag) (s : Style Url) (o : Option StyleScan) (a : Reference)
    → WhereScanned (style_value_scanned q tag o a) (CutFrom (AttributeValue q tag (ValueOf (OfStyle s)) a))
style-scan-cuts q tag s None a = tt
style-scan-cuts q tag s (Some n) a = λ r e taken. by-one (style_scan (style_value tag (quotes_at q)) n a) a r (text_escaped a) e (style-cuts _ n a a)

script-there-cuts : (q : Quoting) (tag : Tag) (s : ScriptState) (o : Option ScriptScan) (a : Reference)
    → WhereScanned (script_there q tag o a) (CutFrom (AttributeValue q tag (ValueOf (OfScript s)) a))
script-there-cuts q tag s None a = tt
script-there-cuts q tag s (Some n) a = λ r e taken. by-one (InScript (script_value tag (quotes_at q)) n a) a r (text_escaped a) e refl

script-placed-cuts : (q : Quoting) (tag : Tag) (s : ScriptState) (x : Option Body) (o : Option ScriptScan)
    → WhereScanned (script_unless_placed q tag x o) (CutFrom (AttributeValue q tag (ValueOf (OfScript s)) Closed))
script-placed-cuts q tag s (Some x) o = λ r e taken. by-one (At place.Text) Closed r _ e refl
script-placed-cuts q tag s None o = script-there-cuts q tag s o Closed

script-scan-cuts : (q : Quoting) (tag : Tag) (s : ScriptState) (a : Reference)
    → WhereScanned (script_value_scanned q tag s a) (CutFrom (AttributeValue q tag (ValueOf (OfScript s)) a))
script-scan-cuts q tag s Closed = script-placed-cuts q tag s (script_body s) (kept_script_scanned s)
script-scan-cuts q tag s (Open f bytes) = script-there-cuts q tag s (kept_script_scanned s) (Open f bytes)

value-cuts : (q : Quoting) (tag : Tag) (v : Value ValueState) (a : Reference) → CutAt (AttributeValue q tag v a)
value-cuts q tag (ValueOf (OfKind kind.Plain)) a = λ r e taken. by-one (At place.Text) a r _ e refl
value-cuts q tag (ValueOf (OfKind kind.NoHole)) a = λ r e taken. by-one (At place.Text) a r _ e refl
value-cuts q tag (ValueOf (OfKind kind.Url)) a = tt
value-cuts q tag (ValueOf (OfKind kind.Script)) a = tt
value-cuts q tag (ValueOf (OfKind kind.Style)) a = tt
value-cuts q tag (ValueOf (OfKind kind.ScriptType)) a = tt
value-cuts q tag (ValueOf (OfUrl u)) a = λ r e taken. by-one (url_scanned q tag u a) a r (text_escaped a) e (url-cuts _ u.triple a a)
value-cuts q tag (ValueOf (OfStyle s)) a = style-scan-cuts q tag s (style_scanned s) a
value-cuts q tag (ValueOf (OfScript s)) a = script-scan-cuts q tag s a
value-cuts q tag (Deciding kind.ScriptType before) a =
    let s = AttributeValue q tag (Deciding kind.ScriptType before) a in
    where-first (is_second_type tag.typed kind.ScriptType) (InType tag.tag q (Deciding kind.ScriptType before) a) (CutFrom s) (λ r e taken. by-one (At place.Text) a r _ e refl)
value-cuts q tag (Deciding _ before) a = tt

before-cuts : (tag : Tag) (k : Kind) → CutAt (BeforeAttributeValue tag k)
before-cuts tag kind.Plain = λ r e taken. by-one (At place.Text) Closed r _ e refl
before-cuts tag kind.NoHole = λ r e taken. by-one (At place.Text) Closed r _ e refl
before-cuts tag kind.Url = λ r e taken. by-one (At place.Text) Closed r _ e refl
before-cuts tag kind.Script = λ r e taken. by-one (At place.Text) Closed r _ e refl
before-cuts tag kind.Style = λ r e taken. by-one (At place.Text) Closed r _ e refl
before-cuts tag kind.ScriptType =
    where-first (is_second_type tag.typed kind.ScriptType) (BeforeType tag.tag) (CutFrom (BeforeAttributeValue tag kind.ScriptType)) (λ r e taken. by-one (At place.Text) Closed r _ e refl)

comment-cuts : (s : CommentState) → CutAt (InComment s)
comment-cuts Started = λ r e taken. refl
comment-cuts StartedDash = λ r e taken. refl
comment-cuts Inside = λ r e taken. by-one (At place.Text) Closed r _ e refl
comment-cuts Dash = λ r e taken. refl
comment-cuts DashDash = λ r e taken. refl
comment-cuts Bang = λ r e taken. refl
comment-cuts Broken = λ r e taken. by-one (At place.Text) Closed r _ e refl

cuts : (s : LexState ValueState) → CutAt s
cuts (Text a) = λ r e taken. by-one (At place.Text) a r _ e refl
cuts (TagOpen a) = λ r e taken. by-one AfterLess a r _ e refl
cuts (EndTagOpen a) = λ r e taken. by-one AfterLessSolidus a r _ e refl
cuts (DeclarationOpen a pending) = λ r e taken. by-one (InDeclaration pending) a r _ e refl
cuts (InComment s) = comment-cuts s
cuts BogusComment = tt
cuts InDoctype = λ r e taken. by-one (At place.Text) Closed r _ e refl
cuts (TagName ends name) = λ r e taken. refl
cuts (WholeTagName t) = λ r e taken. by-one (At place.Text) Closed r _ e refl
cuts (BeforeAttributeName t) = λ r e taken. by-one (At place.Text) Closed r _ e refl
cuts (AttributeName t name) = λ r e taken. refl
cuts (WholeAttributeName t j) =
    where-first (is_second_type t.typed j) (At (place.Tag (tag_spot t only_inside (Some j)))) (CutFrom (WholeAttributeName t j)) (λ r e taken. by-one (At place.Text) Closed r _ e refl)
cuts (AfterAttributeName t j) =
    where-first (is_second_type t.typed j) (At (place.Tag (tag_spot t only_after (Some j)))) (CutFrom (AfterAttributeName t j)) (λ r e taken. by-one (At place.Text) Closed r _ e refl)
cuts (BeforeAttributeValue t j) = before-cuts t j
cuts (AttributeValue q t v a) = value-cuts q t v a
cuts (AfterAttributeValue t) = λ r e taken. by-one (At place.Text) Closed r _ e refl
cuts (SelfClosingStartTag t) = λ r e taken. by-one (At place.Text) Closed r _ e refl
cuts (InContent x (Characters a) h) = content-cuts x a h
cuts (InContent x Bytes h) = block-cuts x h
cuts (InContent x (InLanguage v) h) = language-cuts x v h

-- A path that is at a place has no reference open.
no-place : (p : Place) → None ≡ Some p → ⊥
no-place p e = cc

closed-at : (s : LexState ValueState) (p : Place) → placed s ≡ Some p → opened s ≡ Some Closed
closed-at (Text Closed) p e = refl
closed-at (Text (Open f bytes)) p e = absurd (no-place p e)
closed-at (TagOpen r) p e = absurd (no-place p e)
closed-at (EndTagOpen r) p e = absurd (no-place p e)
closed-at (DeclarationOpen r pending) p e = absurd (no-place p e)
closed-at (AttributeValue q t v Closed) p e = refl
closed-at (AttributeValue q t v (Open f bytes)) p e = absurd (no-place p e)
closed-at (InContent x (Characters Closed) Nothing) p e = refl
closed-at (InContent x (Characters Closed) PendingLess) p e = refl
closed-at (InContent x (Characters Closed) (PendingName letters)) p e = refl
closed-at (InContent x (Characters Closed) LessAtCut) p e = refl
closed-at (InContent x (Characters Closed) PendingBang) p e = refl
closed-at (InContent x (Characters Closed) PendingBangDash) p e = refl
closed-at (InContent x (Characters Closed) (PendingOpening letters)) p e = refl
closed-at (InContent x (Characters (Open f bytes)) Nothing) p e = absurd (no-place p e)
closed-at (InContent x (Characters (Open f bytes)) PendingLess) p e = absurd (no-place p e)
closed-at (InContent x (Characters (Open f bytes)) (PendingName letters)) p e = absurd (no-place p e)
closed-at (InContent x (Characters (Open f bytes)) LessAtCut) p e = absurd (no-place p e)
closed-at (InContent x (Characters (Open f bytes)) PendingBang) p e = absurd (no-place p e)
closed-at (InContent x (Characters (Open f bytes)) PendingBangDash) p e = absurd (no-place p e)
closed-at (InContent x (Characters (Open f bytes)) (PendingOpening letters)) p e = absurd (no-place p e)
closed-at s p e = refl

-- Whole texts.
writes-at : (s : LexState ValueState) (f : Scan) (b : ℕ) (r : Reference) → scanned s ≡ Some f → opened s ≡ Some r → scan_error f (class_of b) b ≡ None → Writes s f (class_of b) b r
writes-at s f b r e o taken = subst (λ (z : Option Scan). WhereScanned z (WritesFrom s (class_of b) b)) e (writes s (class_of b) b refl) r o taken

cuts-at : (s : LexState ValueState) (f : Scan) (r : Reference) → scanned s ≡ Some f → opened s ≡ Some r → scan_cut_error f ≡ None → cut_out languages s ≡ scan_cut_out f r
cuts-at s f r e o taken = subst (λ (z : Option Scan). WhereScanned z (CutFrom s)) e (cuts s) r o taken

same-from : (bytes : List ℕ) (k : ℕ) (since : TextRead) (s : LexState ValueState) (f : Scan) (r : Reference) (q : Place) → scanned s ≡ Some f → opened s ≡ Some r → stepped k since bytes f ≡ Ok q
    → written languages bytes s ≡ written_from bytes f r
same-from [] k since s f r q e o h = cuts-at s f r e o (end-ok k since f q h).cut
same-from (b ∷ bs) k since s f r q e o h =
    let later = scan_read_behind k since f (class_of b) b in
    let n = step-ok k since b bs f q h in
    let w = writes-at s f b r e o n.0 in
    ap₂ (λ (x y : List ℕ). x ++ y) w.outs
    (same-from bs (k + 1) later (next languages Template s (class_of b) b) (scan_next f (class_of b) b) (scan_open f (class_of b) b r) q ((agrees-at s f b e).steps n.0) w.opens n.1)

above-from : (bytes : List ℕ) (k : ℕ) (since : TextRead) (f g : Scan) (r : Reference) (q : Place) → ScanValid f → ScanBelow f g → stepped k since bytes g ≡ Ok q → written_from bytes f r ≡ written_from bytes g r
above-from [] k since f g r q v h e = cut-same f g r v h (end-ok k since g q e).cut
above-from (b ∷ bs) k since f g r q v h e =
    let later = scan_read_behind k since g (class_of b) b in
    let n = step-ok k since b bs g q e in
    let m = scan-grows f g (class_of b) b refl v h n.0 in
    let w = scan-same f g (class_of b) b r refl v h n.0 in
    ap₂ (λ (x y : List ℕ). x ++ y) w.outs
    (above-from bs (k + 1) later (scan_next f (class_of b) b) (scan_next g (class_of b) b) (scan_open f (class_of b) b r) q (scan-valid f (class_of b) b v m.0) m.1 n.1
    ∙ ap (λ (z : Reference). written_from bs (scan_next g (class_of b) b) z) w.opens)

pub written-on-paths : WrittenOnPaths
written-on-paths bytes p q s v i e =
    let g = grows-text bytes i.own p q i.valid v i.below e in
    same-from bytes 0 nothing_read s (At i.own) Closed g.0 (at-place s i.own i.stands) (closed-at s i.own i.stands) (text-steps bytes i.own g.0 g.1)
    ∙ above-from bytes 0 nothing_read (At i.own) (At p) Closed q i.valid i.below (text-steps bytes p q e)
