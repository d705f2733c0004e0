-- Reading byte by byte finds the scheme of whole bytes.
use Rattle.std.proofs.Common.{◌≡◌, ℕ, List, [], ◌∷◌, ◌++◌, Option, Some, None, refl, sym, ap, ◌∙◌}
use Rattle.std.specs.Prelude.{⊤, option_map}
use Rattle.std.specs.Char.{to_ascii_lowercase}
use Rattle.std.proofs.lemmas.List.{append_assoc, append-nil}
use Rattle.url_lexer.specs.Classes.{url_class_of}
use Rattle.url_lexer.specs.Events.{Named, scheme_at_end}
use Rattle.url_lexer.specs.SchemeOf.{SchemeIsRead, scheme_of, told_name, front_by, front_of_colon, trimmed, trimmed_by, letters_by, letters_of}
use Rattle.url_lexer.specs.Schemes.{UrlScheme, SchemeAhead, SchemeSoFar, SchemeIs, SchemeAbsent, next_scheme, with_letter}
use Rattle.url_lexer.specs.States.{Url, url_start, feed_url, feed_all}
use Rattle.url_lexer.specs.declared.class.UrlClass.{UrlClass}
use Rattle.url_lexer.specs.declared.class.UrlClass.TheVariants as class

abbrev pub scheme_over : UrlScheme → List ℕ → UrlScheme
scheme_over s [] = s
scheme_over s (b ∷ bs) = scheme_over (next_scheme s (url_class_of b) b) bs

pub fed-scheme : (u : Url) (bs : List ℕ) → (feed_all u bs).scheme ≡ scheme_over u.scheme bs
fed-scheme u [] = refl
fed-scheme u (b ∷ bs) = fed-scheme (feed_url u b) bs

pub scheme-append : (s : UrlScheme) (front bs : List ℕ) → scheme_over s (front ++ bs) ≡ scheme_over (scheme_over s front) bs
scheme-append s [] bs = refl
scheme-append s (b ∷ front) bs = scheme-append (next_scheme s (url_class_of b) b) front bs

pub named-stays : (l bs : List ℕ) → scheme_over (SchemeIs l) bs ≡ SchemeIs l
named-stays l [] = refl
named-stays l (b ∷ bs) = named-stays l bs

pub absent-stays : (bs : List ℕ) → scheme_over SchemeAbsent bs ≡ SchemeAbsent
absent-stays [] = refl
absent-stays (b ∷ bs) = absent-stays bs

-- a byte that is no tab and no end of a line
abbrev IsLetter : UrlClass → Type 0
IsLetter class.TabOrNewline = ⊥
IsLetter c = ⊤

letters-in : (c : UrlClass) (b : ℕ) (rest : List ℕ) → url_class_of b ≡ c → IsLetter c → letters_by (url_class_of b) b rest ≡ to_ascii_lowercase b ∷ rest
letters-in class.TabOrNewline b rest e k = absurd k
letters-in _ b rest e k = rw e refl

-- behind letters
left-out : (b : ℕ) (l : List ℕ) (o : Option (List ℕ)) → url_class_of b ≡ class.TabOrNewline
    → told_name (option_map (λ (f : List ℕ). l ++ letters_of f) o) ≡ told_name (option_map (λ (f : List ℕ). l ++ letters_of f) (option_map (λ (f : List ℕ). b ∷ f) o))
left-out b l None e = refl
left-out b l (Some f) e = rw e refl

taken-in : (c : UrlClass) (b : ℕ) (l : List ℕ) (o : Option (List ℕ)) → url_class_of b ≡ c → IsLetter c
    → told_name (option_map (λ (f : List ℕ). with_letter l b ++ letters_of f) o) ≡ told_name (option_map (λ (f : List ℕ). l ++ letters_of f) (option_map (λ (f : List ℕ). b ∷ f) o))
taken-in c b l None e k = refl
taken-in c b l (Some f) e k =
    ap Named (append_assoc l (to_ascii_lowercase b ∷ []) (letters_of f) ∙ ap (λ (x : List ℕ). l ++ x) (sym (letters-in c b (letters_of f) e k)))

abbrev ReadsOn : List ℕ → Type 0
ReadsOn bs = (l : List ℕ) → scheme_at_end (scheme_over (SchemeSoFar l) bs) ≡ told_name (option_map (λ (f : List ℕ). l ++ letters_of f) (front_of_colon bs))

reads-byte : (c : UrlClass) (b : ℕ) (bs l : List ℕ) → url_class_of b ≡ c → ReadsOn bs
    → scheme_at_end (scheme_over (next_scheme (SchemeSoFar l) c b) bs) ≡ told_name (option_map (λ (f : List ℕ). l ++ letters_of f) (front_by c b (front_of_colon bs)))
reads-byte class.Colon b bs l e h = ap scheme_at_end (named-stays l bs) ∙ ap Named (sym (append-nil l))
reads-byte class.Slash b bs l e h = ap scheme_at_end (absent-stays bs)
reads-byte class.QueryMark b bs l e h = ap scheme_at_end (absent-stays bs)
reads-byte class.TabOrNewline b bs l e h = h l ∙ left-out b l (front_of_colon bs) e
reads-byte c b bs l e h = h (with_letter l b) ∙ taken-in c b l (front_of_colon bs) e tt

pub reads-on : (bs : List ℕ) → ReadsOn bs
reads-on [] l = refl
reads-on (b ∷ bs) l = reads-byte (url_class_of b) b bs l refl (reads-on bs)

-- from the beginning
abbrev IsBlank : UrlClass → Type 0
IsBlank class.TabOrNewline = ⊤
IsBlank class.ControlOrSpace = ⊤
IsBlank c = ⊥

abbrev Begins : UrlClass → Type 0
Begins class.TabOrNewline = ⊥
Begins class.ControlOrSpace = ⊥
Begins c = ⊤

trimmed-out : (c : UrlClass) (b : ℕ) (bs rest : List ℕ) → url_class_of b ≡ c → IsBlank c → trimmed_by (url_class_of b) b bs rest ≡ rest
trimmed-out class.TabOrNewline b bs rest e k = rw e refl
trimmed-out class.ControlOrSpace b bs rest e k = rw e refl
trimmed-out _ b bs rest e k = absurd k

trimmed-none : (c : UrlClass) (b : ℕ) (bs rest : List ℕ) → url_class_of b ≡ c → Begins c → trimmed_by (url_class_of b) b bs rest ≡ b ∷ bs
trimmed-none class.TabOrNewline b bs rest e k = absurd k
trimmed-none class.ControlOrSpace b bs rest e k = absurd k
trimmed-none _ b bs rest e k = rw e refl

begins-letter : (c : UrlClass) → Begins c → IsLetter c
begins-letter class.TabOrNewline k = absurd k
begins-letter class.ControlOrSpace k = absurd k
begins-letter _ k = tt

blank-out : (c : UrlClass) (b : ℕ) (o : Option (List ℕ)) → url_class_of b ≡ c → IsBlank c
    → told_name (option_map (λ (f : List ℕ). letters_of (trimmed f)) o) ≡ told_name (option_map (λ (f : List ℕ). letters_of (trimmed f)) (option_map (λ (f : List ℕ). b ∷ f) o))
blank-out c b None e k = refl
blank-out c b (Some f) e k = ap (λ (x : List ℕ). Named (letters_of x)) (sym (trimmed-out c b f (trimmed f) e k))

first-in : (c : UrlClass) (b : ℕ) (o : Option (List ℕ)) → url_class_of b ≡ c → Begins c
    → told_name (option_map (λ (f : List ℕ). with_letter [] b ++ letters_of f) o) ≡ told_name (option_map (λ (f : List ℕ). letters_of (trimmed f)) (option_map (λ (f : List ℕ). b ∷ f) o))
first-in c b None e k = refl
first-in c b (Some f) e k =
    ap Named (sym (letters-in c b (letters_of f) e (begins-letter c k)) ∙ ap letters_of (sym (trimmed-none c b f (trimmed f) e k)))

abbrev ReadsFirst : List ℕ → Type 0
ReadsFirst bs = scheme_at_end (scheme_over SchemeAhead bs) ≡ told_name (scheme_of bs)

first-byte : (c : UrlClass) (b : ℕ) (bs : List ℕ) → url_class_of b ≡ c → ReadsFirst bs
    → scheme_at_end (scheme_over (next_scheme SchemeAhead c b) bs) ≡ told_name (option_map (λ (f : List ℕ). letters_of (trimmed f)) (front_by c b (front_of_colon bs)))
first-byte class.TabOrNewline b bs e h = h ∙ blank-out class.TabOrNewline b (front_of_colon bs) e tt
first-byte class.ControlOrSpace b bs e h = h ∙ blank-out class.ControlOrSpace b (front_of_colon bs) e tt
first-byte class.Colon b bs e h = ap scheme_at_end (named-stays [] bs)
first-byte class.Slash b bs e h = ap scheme_at_end (absent-stays bs)
first-byte class.QueryMark b bs e h = ap scheme_at_end (absent-stays bs)
first-byte c b bs e h = reads-on bs (with_letter [] b) ∙ first-in c b (front_of_colon bs) e tt

pub reads-first : (bs : List ℕ) → ReadsFirst bs
reads-first [] = refl
reads-first (b ∷ bs) = first-byte (url_class_of b) b bs refl (reads-first bs)

pub scheme-read : SchemeIsRead
scheme-read bytes = ap scheme_at_end (fed-scheme url_start bytes) ∙ reads-first bytes
