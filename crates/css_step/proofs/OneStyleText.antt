-- From the place of one path, what characters come to and what is refused of them is the path's own.
use Rattle.std.proofs.Common.{◌≡◌, ◌+◌, ◌++◌, ◌⊎◌, ℕ, suc, Bool, List, [], ◌∷◌, Option, Some, None, option_map, length, refl, sym, ap, ◌∙◌, subst, inl, inr, append-nil, append_assoc, length-append}
use Rattle.std.specs.Prelude.{encode_utf8}
use Rattle.css_lexer.specs.Classes.{style_class}
use Rattle.css_lexer.specs.RefusalCodes.{RefusalCode, StyleCutRefusal}
use Rattle.css_lexer.specs.Refusals.{style_refuses, style_refuses_cut}
use Rattle.css_lexer.specs.States.{Style}
use Rattle.css_lexer.specs.Steps.{style_next}
use Rattle.css_lexer.specs.Urls.{urls}
use Rattle.place_core.specs.page.Tags.{style_code}
use Rattle.place_core.specs.declared.code.Code.{Code}
use Rattle.place_core.specs.declared.css.Css.{Css}
use Rattle.place_core.specs.declared.mode.Mode.{Mode}
use Rattle.place_core.specs.declared.mode.Mode.TheVariants as mode
use Rattle.url_lexer.specs.States.{Url}
use Rattle.url_step.specs.PartTexts.{place_behind, scalar_of, unless_byte_refused}
use Rattle.url_step.specs.TextLaws.{text_bytes, place_after}
use Rattle.url_step.proofs.TextGrowth.{unless-none}
use Rattle.css_step.specs.StyleCharacters.{StyleText, StylePoint, begins_style_lexeme, style_since, style_point_next, style_point_behind, style_point_start, style_bytes_error, style_node_end, style_text_end, unless_style_refused, style_characters_from}
use Rattle.css_step.specs.StyleCharacterLaws.{style_path_error, style_path_end_error, StandsInStyle, StyleAnswers, IsExactOnOneStyleText}
use Rattle.css_step.specs.StyleScans.{StyleScan, style_scan_next, style_scan_error, style_scan_place, style_scan_cut_error}
use Rattle.css_step.specs.StyleScanLaws.{IsStyleScan}
use Rattle.css_step.specs.StyleTexts.{style_text}
use Rattle.css_step.proofs.OneStylePath.{one-style}
use Rattle.css_step.proofs.StyleBodies.{body-after-cut}
use Rattle.css_step.proofs.StyleLexemes.{OpensTo, opens_none, opens_here, opens_on, open_length, HasOneOpen, scan-lexeme, start-open, start-one, one-more, cut-length, cut-none}
use Rattle.css_step.proofs.StyleTextGrowth.{style-named}

-- The point of a path behind bytes: its scan state, and the lexeme that is open with the place before it.
record LexemeSince (v : Style Url) (done : List ℕ) (c : Css) (len : ℕ) : Type 0 where
  read : List ℕ
  lexeme : List ℕ
  whole : done ≡ read ++ lexeme
  shown : length lexeme ≡ len
  before : StandsInStyle (style_text read v) c

abbrev IsOpenSince : Style Url → List ℕ → Css → ℕ → Type 0
IsOpenSince v done c len = (len ≡ 0) ⊎ LexemeSince v done c len

record OnStylePath (v : Style Url) (done : List ℕ) (x : StylePoint) : Type 0 where
  scan : IsStyleScan (style_text done v) x.scan
  one : HasOneOpen x.scan
  open_lexeme : IsOpenSince v done x.since (open_length x.scan)

text-append : (xs ys : List ℕ) (v : Style Url) → style_text (xs ++ ys) v ≡ style_text ys (style_text xs v)
text-append [] ys v = refl
text-append (x ∷ xs) ys v = text-append xs ys (style_next urls v (style_class x) x)

on-lexeme : (v : Style Url) (done : List ℕ) (b : ℕ) (z : Bool) (here since : Css) (old new : ℕ) → OpensTo z old new
    → StandsInStyle (style_text done v) here
    → IsOpenSince v done since old → IsOpenSince v (done ++ b ∷ []) (style_since z here since) new
on-lexeme v done b _ here since _ _ (opens_none z old) s h = inl refl
on-lexeme v done b _ here since _ _ (opens_here old) s h = inr (record { read = done; lexeme = b ∷ []; whole = refl; shown = refl; before = s })
on-lexeme v done b _ here since _ _ (opens_on k) s (inl e) = cc
on-lexeme v done b _ here since _ _ (opens_on k) s (inr h) = inr (record {
  read = h.read;
  lexeme = h.lexeme ++ b ∷ [];
  whole = ap (λ (z : List ℕ). z ++ b ∷ []) h.whole ∙ append_assoc h.read h.lexeme (b ∷ []);
  shown = length-append h.lexeme (b ∷ []) ∙ (ap (λ (n : ℕ). n + 1) h.shown ∙ one-more (suc k));
  before = h.before;
})

on-next : (v : Style Url) (done : List ℕ) (x : StylePoint) (b : ℕ) → style_scan_error x.scan (style_class b) b ≡ None → OnStylePath v done x
    → OnStylePath v (done ++ b ∷ []) (style_point_next x b)
on-next v done x b none h =
    let w = style_text done v in
    let one = one-style w x.scan h.scan in
    let l = scan-lexeme x.scan b h.one in
    record {
      scan = subst (λ (u : Style Url). IsStyleScan u (style_scan_next x.scan (style_class b) b)) (sym (text-append done (b ∷ []) v))
          (one.next (style_class b) b (sym (one.error (style_class b) b) ∙ none));
      one = l.one;
      open_lexeme = on-lexeme v done b (begins_style_lexeme b) (style_scan_place x.scan) x.since _ _ l.opens (body-after-cut w x.scan h.scan) h.open_lexeme;
    }

on-bytes : (bs : List ℕ) (v : Style Url) (done : List ℕ) (x : StylePoint) → style_bytes_error x.scan bs ≡ None → OnStylePath v done x
    → OnStylePath v (done ++ bs) (style_point_behind x bs)
on-bytes [] v done x e h = subst (λ (d : List ℕ). OnStylePath v d x) (sym (append-nil done)) h
on-bytes (b ∷ bs) v done x e h =
    let c = style_class b in
    let both = unless-none (option_map style_code (style_scan_error x.scan c b)) (style_bytes_error (style_scan_next x.scan c b) bs) e in
    subst (λ (d : List ℕ). OnStylePath v d (style_point_behind (style_point_next x b) bs)) (append_assoc done (b ∷ []) bs)
    (on-bytes bs v (done ++ b ∷ []) (style_point_next x b) both.1 (on-next v done x b (style-named (style_scan_error x.scan c b) both.0) h))

-- what is refused
unless-same : (o p : Option RefusalCode) (x y : Option Code) → p ≡ o → (o ≡ None → x ≡ y)
    → unless_byte_refused (option_map style_code p) x ≡ unless_byte_refused (option_map style_code o) y
unless-same None p x y e f = ap (λ (z : Option RefusalCode). unless_byte_refused (option_map style_code z) x) e ∙ f refl
unless-same (Some r) p x y e f = ap (λ (z : Option RefusalCode). unless_byte_refused (option_map style_code z) x) e

one-bytes : (bs : List ℕ) (v : Style Url) (n : StyleScan) → IsStyleScan v n → style_bytes_error n bs ≡ style_path_error v bs
one-bytes [] v n h = refl
one-bytes (b ∷ bs) v n h =
    let c = style_class b in
    unless-same (style_refuses urls v b) (style_scan_error n c b) (style_bytes_error (style_scan_next n c b) bs) (style_path_error (style_next urls v c b) bs)
    ((one-style v n h).error c b)
    (λ e. one-bytes bs (style_next urls v c b) (style_scan_next n c b) ((one-style v n h).next c b e))

accepted-append : (xs ys : List ℕ) (v : Style Url) → style_path_error v xs ≡ None → style_path_error (style_text xs v) ys ≡ None
    → style_path_error v (xs ++ ys) ≡ None
accepted-append [] ys v h k = k
accepted-append (x ∷ xs) ys v h k =
    let next = style_next urls v (style_class x) x in
    let both = unless-none (option_map style_code (style_refuses urls v x)) (style_path_error next xs) h in
    ap (λ (o : Option Code). unless_byte_refused o (style_path_error next (xs ++ ys))) both.0 ∙ accepted-append xs ys next both.1 k

-- one more character
text-more : (cs : List (ℕ × ℕ)) (c : ℕ × ℕ) → text_bytes (cs ++ c ∷ []) ≡ text_bytes cs ++ encode_utf8 (scalar_of c.0)
text-more [] c = append-nil (encode_utf8 (scalar_of c.0))
text-more (d ∷ cs) c =
    ap (λ (bs : List ℕ). encode_utf8 (scalar_of d.0) ++ bs) (text-more cs c)
    ∙ sym (append_assoc (encode_utf8 (scalar_of d.0)) (text_bytes cs) (encode_utf8 (scalar_of c.0)))

place-more : (end : ℕ) (cs : List (ℕ × ℕ)) (c : ℕ × ℕ) → place_after end (cs ++ c ∷ []) ≡ place_behind c.1
place-more end [] c = refl
place-more end (d ∷ cs) c = place-more (place_behind d.1) cs c

-- where the characters end
node-refused : (m : Mode) → ((w : Style Url) → style_path_end_error m w ≡ style_refuses_cut urls w)
    → (cs : List (ℕ × ℕ)) (v : Style Url) (end : ℕ) (x : StylePoint)
    (r : StyleCutRefusal) → style_scan_cut_error x.scan ≡ Some r → style_path_error v (text_bytes cs) ≡ None → end ≡ place_after 0 cs
    → OnStylePath v (text_bytes cs) x → IsOpenSince v (text_bytes cs) x.since (open_length x.scan)
    → StyleAnswers m cs v (style_node_end (Some r) end x)
node-refused m node cs v end x r e none ends h (inl z) = absurd (cut-none x.scan r e z)
node-refused m node cs v end x r e none ends h (inr l) = inr (record {
  read = l.read;
  lexeme = l.lexeme;
  cut = r;
  whole = l.whole;
  accepted = none;
  refused = node (style_text (text_bytes cs) v) ∙ (sym (one-style (style_text (text_bytes cs) v) x.scan h.scan).cut_error ∙ e);
  shown = l.shown ∙ cut-length x.scan r e;
  named = refl;
  place = ends;
  before = l.before;
})

node-one : (m : Mode) → ((w : Style Url) → style_path_end_error m w ≡ style_refuses_cut urls w)
    → (cs : List (ℕ × ℕ)) (v : Style Url) (end : ℕ) (x : StylePoint)
    (o : Option StyleCutRefusal) → style_scan_cut_error x.scan ≡ o → style_path_error v (text_bytes cs) ≡ None → end ≡ place_after 0 cs
    → OnStylePath v (text_bytes cs) x → StyleAnswers m cs v (style_node_end o end x)
node-one m node cs v end x None e none ends h = record {
  stands = body-after-cut (style_text (text_bytes cs) v) x.scan h.scan;
  accepted = none;
  ends = node (style_text (text_bytes cs) v) ∙ (sym (one-style (style_text (text_bytes cs) v) x.scan h.scan).cut_error ∙ e);
}
node-one m node cs v end x (Some r) e none ends h = node-refused m node cs v end x r e none ends h h.open_lexeme

end-one : (m : Mode) (cs : List (ℕ × ℕ)) (v : Style Url) (end : ℕ) (x : StylePoint) → style_path_error v (text_bytes cs) ≡ None
    → end ≡ place_after 0 cs
    → OnStylePath v (text_bytes cs) x → StyleAnswers m cs v (style_text_end m end x)
end-one mode.Whole cs v end x none ends h = record { stands = body-after-cut (style_text (text_bytes cs) v) x.scan h.scan; accepted = none; ends = refl }
end-one mode.Open cs v end x none ends h = node-one mode.Open (λ w. refl) cs v end x (style_scan_cut_error x.scan) refl none ends h
end-one mode.Element cs v end x none ends h = node-one mode.Element (λ w. refl) cs v end x (style_scan_cut_error x.scan) refl none ends h

-- from behind the characters that have been read
character-one : (m : Mode) (read cs : List (ℕ × ℕ)) (c : ℕ × ℕ) (v : Style Url) (n : StyleScan) (r : StyleText) (o : Option Code)
    → style_path_error v (text_bytes read) ≡ None → IsStyleScan (style_text (text_bytes read) v) n
    → style_bytes_error n (encode_utf8 (scalar_of c.0)) ≡ o
    → (style_bytes_error n (encode_utf8 (scalar_of c.0)) ≡ None → StyleAnswers m (read ++ c ∷ cs) v r)
    → StyleAnswers m (read ++ c ∷ cs) v (unless_style_refused o c.1 (style_scan_place n) r)
character-one m read cs c v n r None none h e rest = rest e
character-one m read cs c v n r (Some code) none h e rest =
    inl (record {
      read = read;
      character = c;
      rest = cs;
      whole = refl;
      accepted = none;
      refused = sym (one-bytes (encode_utf8 (scalar_of c.0)) (style_text (text_bytes read) v) n h) ∙ e;
      place = refl;
      before = body-after-cut (style_text (text_bytes read) v) n h;
    })

from-one : (m : Mode) (cs read : List (ℕ × ℕ)) (v : Style Url) (end : ℕ) (x : StylePoint) → style_path_error v (text_bytes read) ≡ None
    → end ≡ place_after 0 read → OnStylePath v (text_bytes read) x → StyleAnswers m (read ++ cs) v (style_characters_from m end cs x)
from-one m [] read v end x none ends h =
    subst (λ (z : List (ℕ × ℕ)). StyleAnswers m z v (style_text_end m end x)) (sym (append-nil read)) (end-one m read v end x none ends h)
from-one m (c ∷ cs) read v end x none ends h =
    let bs = encode_utf8 (scalar_of c.0) in
    let w = style_text (text_bytes read) v in
    character-one m read cs c v x.scan (style_characters_from m (place_behind c.1) cs (style_point_behind x bs)) (style_bytes_error x.scan bs) none h.scan refl
    (λ e. subst (λ (z : List (ℕ × ℕ)). StyleAnswers m z v (style_characters_from m (place_behind c.1) cs (style_point_behind x bs))) (append_assoc read (c ∷ []) cs)
    (from-one m cs (read ++ c ∷ []) v (place_behind c.1) (style_point_behind x bs)
    (ap (style_path_error v) (text-more read c) ∙ accepted-append (text_bytes read) bs v none (sym (one-bytes bs w x.scan h.scan) ∙ e))
    (sym (place-more 0 read c))
    (subst (λ (d : List ℕ). OnStylePath v d (style_point_behind x bs)) (sym (text-more read c)) (on-bytes bs v (text_bytes read) x e h))))

pub exact-on-one-style-text : IsExactOnOneStyleText
exact-on-one-style-text m cs v c i =
    from-one m cs [] v 0 (style_point_start c) refl refl (record { scan = i; one = start-one c; open_lexeme = inl (start-open c) })
