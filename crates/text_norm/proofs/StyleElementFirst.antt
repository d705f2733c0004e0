-- What is written first of a text that stands right behind a hole in a style in its element: no byte that may go on with what stands before the hole. Of a
-- text with bytes something is written.
use Rattle.std.proofs.Common.{◌≡◌, ℕ, ◌==◌, Bool, true, false, codes, List, [], ◌∷◌, ◌++◌, None, ◌⊎◌, inl, inr, refl, sym, ap, ◌∙◌, subst, true≢false}
use Rattle.std.proofs.lemmas.Bool.{eqb-true}
use Rattle.std.specs.Prelude.{⊤}
use Rattle.css_lexer.proofs.StylesKeep.{some}
use Rattle.css_lexer.specs.Classes.{style_class}
use Rattle.css_lexer.specs.Escapes.{NoEscape}
use Rattle.css_lexer.specs.Refusals.{refuses_behind_hole, split_if, style_refuses}
use Rattle.css_lexer.specs.States.{AfterSolidus, BehindHole, Comment, Style, Out}
use Rattle.css_lexer.specs.Steps.{next_solidus, next_split, next_style_comment}
use Rattle.css_lexer.specs.Urls.{urls}
use Rattle.css_lexer.specs.Written.{written_behind_solidus, written_byte, written_in_comment}
use Rattle.css_lexer.specs.declared.class.StyleClass.{StyleClass}
use Rattle.css_lexer.specs.declared.class.StyleClass.TheVariants as class
use Rattle.place_core.specs.page.Classes.{Class, White, Solidus, LessThan, GreaterThan, Letter, class_of}
use Rattle.place_core.specs.page.Contents.{is_name_of, may_be_name_of, next_end_name, next_in_content, next_less, next_loose, pending_bytes}
use Rattle.place_core.specs.page.States.{InLanguage, LessAtCut, LexState, Nothing, Pending, PendingBang, PendingBangDash, PendingLess, PendingName, PendingOpening}
use Rattle.place_core.specs.page.Tags.{OfStyle, ValueState, fed_state, language_feeding, languages}
use Rattle.place_core.specs.place.Errors.{at_hand, byte_error, loose_byte_error, refusal_from, TextRead}
use Rattle.place_core.specs.declared.element.Element.{Element}
use Rattle.text_norm.proofs.Keeps.{goes}
use Rattle.text_norm.proofs.StyleElementKeeps.{IsPending, at-hand-none, own-none}
use Rattle.text_norm.proofs.StyleWaits.{style_writing}
use Rattle.text_norm.specs.Standing.{in_element}
use Rattle.text_norm.specs.Written.{behind_released_out, end_tag_out, language_content_cut_out, language_content_out, language_less_out, language_loose_out, language_name_out, released_out, written}
use Rattle.url_lexer.specs.States.{Url}

-- A byte that goes on with no `/`, nor with a `<`, that stands before the hole.
abbrev pub is_star_class : StyleClass → Bool
is_star_class class.Asterisk = true
is_star_class c = false

pub record MayFollow (solidus less : Bool) (b : ℕ) : Type 0 where
  pub no_comment : solidus ≡ true → is_star_class (style_class b) ≡ false
  pub no_end_tag : less ≡ true → (b == 47) ≡ false

abbrev pub BeginsWell : (solidus less : Bool) → List ℕ → Type 0
BeginsWell solidus less [] = ⊥
BeginsWell solidus less (b ∷ bs) = MayFollow solidus less b

begins-well : (solidus less : Bool) (out more : List ℕ) → BeginsWell solidus less out → BeginsWell solidus less (out ++ more)
begins-well solidus less [] more h = absurd h
begins-well solidus less (b ∷ bs) more h = h

less-than : (solidus less : Bool) → MayFollow solidus less 60
unfolding style_class
less-than solidus less = record { no_comment = λ h. refl; no_end_tag = λ h. refl }

space : (solidus less : Bool) → MayFollow solidus less 32
unfolding style_class
space solidus less = record { no_comment = λ h. refl; no_end_tag = λ h. refl }

own-solidus : (solidus less : Bool) → less ≡ false → MayFollow solidus less 47
unfolding style_class
own-solidus solidus less n = record { no_comment = λ h. refl; no_end_tag = λ h. absurd (true≢false (sym h ∙ n)) }

-- The states of the path in which nothing has been written yet: behind the hole, with what may be an end tag; behind a `/` that is written if no comment
-- begins with it; and in such a comment, of which a space is written at its end.
abbrev IsSilent : (solidus less : Bool) → Style Url → Pending → Type 0
IsSilent solidus less (Out (BehindHole s l)) h = IsPending h
IsSilent solidus less (Out (AfterSolidus k)) h = less ≡ false
IsSilent solidus less (Out (Comment star)) h = ⊤
IsSilent solidus less s h = ⊥

-- Only what a path reads in a style may be pending.
abbrev pub IsOfPath : Pending → Type 0
IsOfPath Nothing = ⊤
IsOfPath PendingLess = ⊤
IsOfPath (PendingName letters) = ⊤
IsOfPath h = ⊥

abbrev SilentAt : (solidus less : Bool) → Element → LexState ValueState → Type 0
SilentAt solidus less e z = (s : Style Url) × (h : Pending) × (z ≡ in_element e (OfStyle s) h) × IsOfPath h × IsSilent solidus less s h

-- a byte, or the end of what is pending: something is written, or nothing yet
abbrev Writes : (solidus less : Bool) → Element → List ℕ → LexState ValueState → Type 0
Writes solidus less e out z = BeginsWell solidus less out ⊎ ((out ≡ []) × SilentAt solidus less e z)

-- in a comment
comment-writes : (solidus less star : Bool) (e : Element) (c : StyleClass)
    → Writes solidus less e (written_in_comment {U = Url} (next_style_comment star c)) (in_element e (OfStyle (next_style_comment star c)) Nothing)
comment-writes solidus less true e class.Solidus = inl (space solidus less)
comment-writes solidus less true e class.Asterisk = inr (refl, (Out (Comment true), Nothing, refl, tt, tt))
comment-writes solidus less false e class.Asterisk = inr (refl, (Out (Comment true), Nothing, refl, tt, tt))
comment-writes solidus less true e c = inr (refl, (Out (Comment false), Nothing, refl, tt, tt))
comment-writes solidus less false e c = inr (refl, (Out (Comment false), Nothing, refl, tt, tt))

solidus-writes : (solidus less : Bool) (e : Element) (c : StyleClass) (b : ℕ) → less ≡ false
    → Writes solidus less e (written_behind_solidus c b) (in_element e (OfStyle (next_solidus c b)) Nothing)
solidus-writes solidus less e class.Asterisk b n = inr (refl, (Out (Comment false), Nothing, refl, tt, tt))
solidus-writes solidus less e c b n = inl (own-solidus solidus less n)

-- where nothing is pending
loose-writes : (solidus less : Bool) (e : Element) (s : Style Url) (c : Class) (b : ℕ) → IsSilent solidus less s Nothing
    → Writes solidus less e (language_loose_out style_writing c b (OfStyle s)) (next_loose languages c b e (InLanguage (OfStyle s)))
loose-writes solidus less e (Out (BehindHole p l)) c b i = absurd i
loose-writes solidus less e (Out (AfterSolidus k)) LessThan b i = inr (refl, (Out (AfterSolidus k), PendingLess, refl, tt, i))
loose-writes solidus less e (Out (AfterSolidus k)) c b i = solidus-writes solidus less e (style_class b) b i
loose-writes solidus less e (Out (Comment star)) LessThan b i = inr (refl, (Out (Comment star), PendingLess, refl, tt, tt))
loose-writes solidus less e (Out (Comment star)) c b i = comment-writes solidus less star e (style_class b)
loose-writes solidus less e s c b i = absurd i

-- what was pending and has come to nothing
abbrev InCommentBehind : Style Url → List ℕ → Type 0
InCommentBehind s bs = (star : Bool) × (fed_state languages (OfStyle s) bs ≡ OfStyle (Out (Comment star)))

abbrev Releases : (solidus less : Bool) → Style Url → List ℕ → Type 0
Releases solidus less s bs = BeginsWell solidus less (released_out style_writing (OfStyle s) bs) ⊎ ((released_out style_writing (OfStyle s) bs ≡ []) × InCommentBehind s bs)

comment-byte-releases : (solidus less star : Bool) (c : StyleClass) (bs : List ℕ) → ((star : Bool) → Releases solidus less (Out (Comment star)) bs)
    → (let z : Style Url = next_style_comment star c in let out = written_in_comment z ++ released_out style_writing (OfStyle z) bs in
    BeginsWell solidus less out ⊎ ((out ≡ []) × InCommentBehind z bs))
comment-byte-releases solidus less true class.Solidus bs more = inl (space solidus less)
comment-byte-releases solidus less true class.Asterisk bs more = more true
comment-byte-releases solidus less false class.Asterisk bs more = more true
comment-byte-releases solidus less true c bs more = more false
comment-byte-releases solidus less false c bs more = more false

comment-releases : (solidus less : Bool) (bs : List ℕ) (star : Bool) → Releases solidus less (Out (Comment star)) bs
comment-releases solidus less [] star = inr (refl, (star, refl))
comment-releases solidus less (b ∷ bs) star = comment-byte-releases solidus less star (style_class b) bs (comment-releases solidus less bs)

-- what is pending begins with a `<`
abbrev BeginsLess : List ℕ → Type 0
BeginsLess bs = (more : List ℕ) × (bs ≡ 60 ∷ more)

begins-less : (h : Pending) → IsPending h → BeginsLess (pending_bytes h)
begins-less Nothing p = absurd p
begins-less PendingLess p = ([], refl)
begins-less LessAtCut p = ([], refl)
begins-less (PendingName letters) p = (47 ∷ letters, refl)
begins-less PendingBang p = (33 ∷ [], refl)
begins-less PendingBangDash p = (33 ∷ 45 ∷ [], refl)
begins-less (PendingOpening letters) p = (letters, refl)

less-releases : (solidus less : Bool) (s : Style Url) (h : Pending) (more : List ℕ) → IsPending h → IsSilent solidus less s h → Releases solidus less s (60 ∷ more)
unfolding style_class
less-releases solidus less (Out (BehindHole p l)) h more q i = inl (less-than solidus less)
less-releases solidus less (Out (AfterSolidus k)) h more q i = inl (own-solidus solidus less i)
less-releases solidus less (Out (Comment star)) h more q i = comment-releases solidus less (60 ∷ more) star
less-releases solidus less s h more q i = absurd i

bytes-release : (solidus less : Bool) (s : Style Url) (h : Pending) (bs : List ℕ) → IsPending h → IsSilent solidus less s h → BeginsLess bs → Releases solidus less s bs
bytes-release solidus less s h bs q i k = subst (Releases solidus less s) (sym k.1) (less-releases solidus less s h k.0 q i)

-- and the byte behind it
behind-by : (solidus less : Bool) (e : Element) (s : Style Url) (bs : List ℕ) (c : Class) (b : ℕ) → Releases solidus less s bs
    → Writes solidus less e (behind_released_out style_writing bs c b (OfStyle s)) (next_loose languages c b e (InLanguage (fed_state languages (OfStyle s) bs)))
behind-by solidus less e s bs c b (inl h) = inl (begins-well solidus less (released_out style_writing (OfStyle s) bs) _ h)
behind-by solidus less e s bs c b (inr h) =
    let there : ValueState = OfStyle (Out (Comment h.1.0)) in
    subst (λ (v : ValueState). Writes solidus less e (released_out style_writing (OfStyle s) bs ++ language_loose_out style_writing c b v) (next_loose languages c b e (InLanguage v))) (sym h.1.1)
    (subst (λ (out : List ℕ). Writes solidus less e (out ++ language_loose_out style_writing c b there) (next_loose languages c b e (InLanguage there)))
    (sym h.0) (loose-writes solidus less e (Out (Comment h.1.0)) c b tt))

behind-writes : (solidus less : Bool) (e : Element) (s : Style Url) (h : Pending) (bs : List ℕ) (c : Class) (b : ℕ) → IsPending h → IsSilent solidus less s h → BeginsLess bs
    → Writes solidus less e (behind_released_out style_writing bs c b (OfStyle s)) (next_loose languages c b e (InLanguage (fed_state languages (OfStyle s) bs)))
behind-writes solidus less e s h bs c b q i k = behind-by solidus less e s bs c b (bytes-release solidus less s h bs q i k)

-- or the end tag
end-begins : (solidus less : Bool) (s : Style Url) (h : Pending) (letters : List ℕ) (b : ℕ) → IsSilent solidus less s h → BeginsWell solidus less (end_tag_out style_writing letters b (OfStyle s))
end-begins solidus less (Out (BehindHole p l)) h letters b i = less-than solidus less
end-begins solidus less (Out (AfterSolidus k)) h letters b i = own-solidus solidus less i
end-begins solidus less (Out (Comment star)) h letters b i = space solidus less
end-begins solidus less s h letters b i = absurd i

goes-on : (solidus less : Bool) (s : Style Url) (h g : Pending) → IsPending g → IsSilent solidus less s h → IsSilent solidus less s g
goes-on solidus less (Out (BehindHole p l)) h g q i = q
goes-on solidus less (Out (AfterSolidus k)) h g q i = i
goes-on solidus less (Out (Comment star)) h g q i = tt
goes-on solidus less s h g q i = absurd i

name-writes : (solidus less : Bool) (e : Element) (s : Style Url) (grows whole : Bool) (c : Class) (b : ℕ) (letters : List ℕ) → IsSilent solidus less s (PendingName letters)
    → Writes solidus less e (language_name_out style_writing grows whole c b letters (OfStyle s)) (next_end_name languages grows whole c b e (InLanguage (OfStyle s)) letters)
name-writes solidus less e s true whole (Letter l) b letters i =
    inr (refl, (s, PendingName (letters ++ b ∷ []), refl, tt, goes-on solidus less s (PendingName letters) (PendingName (letters ++ b ∷ [])) tt i))
name-writes solidus less e s grows true White b letters i = inl (end-begins solidus less s (PendingName letters) letters b i)
name-writes solidus less e s grows true Solidus b letters i = inl (end-begins solidus less s (PendingName letters) letters b i)
name-writes solidus less e s grows true GreaterThan b letters i = inl (end-begins solidus less s (PendingName letters) letters b i)
name-writes solidus less e s grows whole c b letters i =
    behind-writes solidus less e s (PendingName letters) (codes "</" ++ letters) c b tt i (47 ∷ letters, refl)

less-writes : (solidus less : Bool) (e : Element) (s : Style Url) (c : Class) (b : ℕ) → IsSilent solidus less s PendingLess
    → Writes solidus less e (language_less_out style_writing c b (OfStyle s)) (next_less languages c b e (InLanguage (OfStyle s)))
less-writes solidus less e s Solidus b i = inr (refl, (s, PendingName [], refl, tt, goes-on solidus less s PendingLess (PendingName []) tt i))
less-writes solidus less e s c b i = behind-writes solidus less e s PendingLess (codes "<") c b tt i ([], refl)

content-writes : (solidus less : Bool) (e : Element) (s : Style Url) (h : Pending) (c : Class) (b : ℕ) → IsOfPath h → IsSilent solidus less s h
    → Writes solidus less e (language_content_out style_writing h c b e (OfStyle s)) (next_in_content languages h c b e (InLanguage (OfStyle s)))
content-writes solidus less e s Nothing c b o i = loose-writes solidus less e s c b i
content-writes solidus less e s PendingLess c b o i = less-writes solidus less e s c b i
content-writes solidus less e s (PendingName letters) c b o i =
    name-writes solidus less e s (may_be_name_of e (letters ++ b ∷ [])) (is_name_of e letters) c b letters i
content-writes solidus less e s LessAtCut c b o i = absurd o
content-writes solidus less e s PendingBang c b o i = absurd o
content-writes solidus less e s PendingBangDash c b o i = absurd o
content-writes solidus less e s (PendingOpening letters) c b o i = absurd o

-- the end of the node
cut-begins-behind : (solidus less : Bool) (s : Style Url) (bs : List ℕ) → Releases solidus less s bs
    → BeginsWell solidus less (released_out style_writing (OfStyle s) bs ++ style_writing.cut (fed_state languages (OfStyle s) bs))
cut-begins-behind solidus less s bs (inl h) = begins-well solidus less (released_out style_writing (OfStyle s) bs) _ h
cut-begins-behind solidus less s bs (inr h) =
    subst (λ (v : ValueState). BeginsWell solidus less (released_out style_writing (OfStyle s) bs ++ style_writing.cut v)) (sym h.1.1)
    (subst (λ (out : List ℕ). BeginsWell solidus less (out ++ 32 ∷ [])) (sym h.0) (space solidus less))

cut-begins : (solidus less : Bool) (s : Style Url) (h : Pending) → IsOfPath h → IsSilent solidus less s h → BeginsWell solidus less (language_content_cut_out style_writing h (OfStyle s))
cut-begins solidus less (Out (BehindHole p l)) Nothing o i = absurd i
cut-begins solidus less (Out (AfterSolidus k)) Nothing o i = own-solidus solidus less i
cut-begins solidus less (Out (Comment star)) Nothing o i = space solidus less
cut-begins solidus less s Nothing o i = absurd i
cut-begins solidus less s PendingLess o i =
    cut-begins-behind solidus less s (codes "<") (bytes-release solidus less s PendingLess (codes "<") tt i ([], refl))
cut-begins solidus less s (PendingName letters) o i =
    cut-begins-behind solidus less s (codes "</" ++ letters) (bytes-release solidus less s (PendingName letters) (codes "</" ++ letters) tt i (47 ∷ letters, refl))
cut-begins solidus less s h o i = absurd o

-- the rest of the text
written-by : (solidus less : Bool) (e : Element) (bs out : List ℕ) (z : LexState ValueState)
    → ((s : Style Url) (h : Pending) → IsOfPath h → IsSilent solidus less s h → BeginsWell solidus less (written languages bs (in_element e (OfStyle s) h)))
    → Writes solidus less e out z → BeginsWell solidus less (out ++ written languages bs z)
written-by solidus less e bs out z more (inl h) = begins-well solidus less out (written languages bs z) h
written-by solidus less e bs out z more (inr h) =
    subst (λ (o : List ℕ). BeginsWell solidus less (o ++ written languages bs z)) (sym h.0)
    (subst (λ (y : LexState ValueState). BeginsWell solidus less (written languages bs y)) (sym h.1.2) (more h.1.0 h.1.1 h.1.3 h.1.4))

silent-begins : (solidus less : Bool) (e : Element) (bytes : List ℕ) (s : Style Url) (h : Pending) → IsOfPath h → IsSilent solidus less s h
    → BeginsWell solidus less (written languages bytes (in_element e (OfStyle s) h))
silent-begins solidus less e [] s h o i = cut-begins solidus less s h o i
silent-begins solidus less e (b ∷ bs) s h o i =
    written-by solidus less e bs _ _ (silent-begins solidus less e bs) (content-writes solidus less e s h (class_of b) b o i)

-- The first byte of the text, right behind the hole.
abbrev is_solidus_class : StyleClass → Bool
is_solidus_class class.Solidus = true
is_solidus_class c = false

slash_class : is_solidus_class (style_class 47) ≡ true
unfolding style_class
slash_class = refl

no-solidus : (q : Bool) (b : ℕ) → (b == 47) ≡ q → is_solidus_class (style_class b) ≡ false → (b == 47) ≡ false
no-solidus true b e n = absurd (true≢false (sym (ap (λ (z : ℕ). is_solidus_class (style_class z)) (eqb-true b 47 e) ∙ slash_class) ∙ n))
no-solidus false b e n = e

other-byte : (solidus less : Bool) (b : ℕ) (c : StyleClass) → style_class b ≡ c → is_star_class c ≡ false → is_solidus_class c ≡ false → MayFollow solidus less b
other-byte solidus less b c k n m = record {
  no_comment = λ h. ap is_star_class k ∙ n;
  no_end_tag = λ h. no-solidus (b == 47) b refl (ap is_solidus_class k ∙ m);
}

not-split : (q : Bool) → split_if q ≡ None → q ≡ false
not-split true n = absurd (some _ n)
not-split false n = refl

byte-writes : (solidus less : Bool) (e : Element) (c : StyleClass) (b : ℕ) → style_class b ≡ c → refuses_behind_hole solidus less c ≡ None
    → Writes solidus less e (written_byte c b) (in_element e (OfStyle (next_split NoEscape c b)) Nothing)
byte-writes solidus less e class.Solidus b k n = inr (refl, (Out (AfterSolidus false), Nothing, refl, tt, not-split less n))
byte-writes solidus less e class.Asterisk b k n = inl (record {
  no_comment = λ h. absurd (true≢false (sym h ∙ not-split solidus n));
  no_end_tag = λ h. no-solidus (b == 47) b refl (ap is_solidus_class k);
})
byte-writes solidus less e class.LeftParenthesis b k n = absurd (some _ n)
byte-writes solidus less e c b k n = inl (other-byte solidus less b c k refl refl)

hole-writes : (solidus less : Bool) (e : Element) (c : Class) (b : ℕ)
    → at_hand (loose_byte_error (language_feeding languages) (OfStyle (Out (BehindHole solidus less))) c b) ≡ None
    → (let s : ValueState = OfStyle (Out (BehindHole solidus less)) in
    Writes solidus less e (language_loose_out style_writing c b s) (next_loose languages c b e (InLanguage s)))
hole-writes solidus less e LessThan b n = inr (refl, (Out (BehindHole solidus less), PendingLess, refl, tt, tt))
hole-writes solidus less e c b n =
    byte-writes solidus less e (style_class b) b refl (own-none (style_refuses urls (Out (BehindHole solidus less)) b) (at-hand-none _ n))

pub hole-begins : (solidus less : Bool) (e : Element) (b : ℕ) (bs : List ℕ) (k : ℕ) (since : TextRead)
    → (let s = in_element e (OfStyle (Out (BehindHole solidus less))) Nothing in
    refusal_from k since (b ∷ bs) s ≡ None → BeginsWell solidus less (written languages (b ∷ bs) s))
hole-begins solidus less e b bs k since n =
    let s = in_element e (OfStyle (Out (BehindHole solidus less))) Nothing in
    written-by solidus less e bs _ _ (silent-begins solidus less e bs)
    (hole-writes solidus less e (class_of b) b (goes k (byte_error s (class_of b) b) _ n).0)
