-- What the characters of a URL promise: of one set below another, of one path, of the paths in a set, and of the members of a set.
use Rattle.std.specs.Prelude.{◌≡◌, ◌++◌, ◌⊎◌, ℕ, true, encode_utf8, length, List, [], ◌∷◌, Option, None, Some, option_map, Ok, Err}
use Rattle.place_core.specs.page.Tags.{refusal_code}
use Rattle.place_core.specs.place.LanguagePlaces.{IsValidParts, parts_have}
use Rattle.place_core.specs.place.UrlParts.{parts_of}
use Rattle.place_core.specs.declared.code.Code.{Code}
use Rattle.place_core.specs.declared.member.Member.{Member}
use Rattle.place_core.specs.declared.mode.Mode.{Mode}
use Rattle.place_core.specs.declared.mode.Mode.TheVariants as mode
use Rattle.place_core.specs.declared.parts.Parts.{Parts}
use Rattle.place_core.specs.declared.step.Step.TheVariants as step
use Rattle.place_core.specs.declared.step_err.StepErr.{StepErr}
use Rattle.url_lexer.specs.Refusals.{UrlCutRefusal, url_refuses, url_refuses_cut}
use Rattle.url_lexer.specs.States.{Url, feed_url, feed_all}
use Rattle.url_lexer.specs.Triples.{NoTriple}
use Rattle.url_step.specs.PartOrigins.{PartBears}
use Rattle.url_step.specs.PartSets.{PartsBelow, HasPart}
use Rattle.url_step.specs.PartTexts.{UrlText, after_characters, place_behind, scalar_of, unless_byte_refused}

-- Where a set accepts characters, one below it accepts them, and comes to one below.
abbrev pub TextsGrow : Type 0
TextsGrow = (m : Mode) (cs : List (ℕ × ℕ)) (s t b : Parts) → PartsBelow s t → after_characters m cs t ≡ Ok (step.Inside b)
    → (a : Parts) × (after_characters m cs s ≡ Ok (step.Inside a)) × PartsBelow a b

-- the bytes of characters, and one byte behind the place of the last of them
abbrev pub text_bytes : List (ℕ × ℕ) → List ℕ
text_bytes [] = []
text_bytes (c ∷ cs) = encode_utf8 (scalar_of c.0) ++ text_bytes cs

abbrev pub place_after : ℕ → List (ℕ × ℕ) → ℕ
place_after end [] = end
place_after end (c ∷ cs) = place_after (place_behind c.1) cs

-- the first of bytes that is refused on a path; and its end, which is refused in a node alone
abbrev pub url_error : Url → List ℕ → Option Code
url_error u [] = None
url_error u (b ∷ bs) = unless_byte_refused (option_map refusal_code (url_refuses u b)) (url_error (feed_url u b) bs)

abbrev pub url_end_error : Mode → Url → Option UrlCutRefusal
url_end_error mode.Whole u = None
url_end_error m u = url_refuses_cut u

-- Nothing is refused on the path, which comes to this part.
pub record UrlAccepts (m : Mode) (cs : List (ℕ × ℕ)) (u : Url) (after : Parts) : Type 0 where
  pub stands : after ≡ parts_of (feed_all u (text_bytes cs)).part
  pub accepted : url_error u (text_bytes cs) ≡ None
  pub ends : url_end_error m (feed_all u (text_bytes cs)) ≡ None

-- A byte of a character is refused on the path, and none before that character.
pub record RefusesCharacter (cs : List (ℕ × ℕ)) (u : Url) (e : StepErr Parts) : Type 0 where
  pub read : List (ℕ × ℕ)
  pub character : ℕ × ℕ
  pub rest : List (ℕ × ℕ)
  pub whole : cs ≡ read ++ character ∷ rest
  pub accepted : url_error u (text_bytes read) ≡ None
  pub refused : url_error (feed_all u (text_bytes read)) (encode_utf8 (scalar_of character.0)) ≡ Some e.code
  pub place : e.at ≡ character.1
  pub before : e.before ≡ parts_of (feed_all u (text_bytes read)).part

-- No byte is, and the node may not end there: in a percent triple. It is shown at the part before the triple.
pub record RefusesEnd (m : Mode) (cs : List (ℕ × ℕ)) (u : Url) (e : StepErr Parts) : Type 0 where
  pub read : List ℕ
  pub triple : List ℕ
  pub cut : UrlCutRefusal
  pub whole : text_bytes cs ≡ read ++ triple
  pub accepted : url_error u (text_bytes cs) ≡ None
  pub refused : url_end_error m (feed_all u (text_bytes cs)) ≡ Some cut
  pub shown : length triple ≡ cut.shown
  pub named : e.code ≡ refusal_code cut.refusal
  pub place : e.at ≡ place_after 0 cs
  pub before : e.before ≡ parts_of (feed_all u read).part

-- On the set of one path, whose text begins in no percent triple, the answer is the path's own.
abbrev pub UrlAnswers : Mode → List (ℕ × ℕ) → Url → UrlText → Type 0
UrlAnswers m cs u (Ok (step.Inside s)) = UrlAccepts m cs u s
UrlAnswers m cs u (Ok (step.Ends n)) = ⊥
UrlAnswers m cs u (Err e) = RefusesCharacter cs u e ⊎ RefusesEnd m cs u e

abbrev pub IsExactOnOneText : Type 0
IsExactOnOneText = (m : Mode) (cs : List (ℕ × ℕ)) (u : Url) → u.triple ≡ NoTriple → UrlAnswers m cs u (after_characters m cs (parts_of u.part))

-- Where a set accepts characters, a path in it whose text begins in no percent triple is refused neither in them nor at their end, and its part
-- behind them is in the set there.
pub record CoversCharacters (m : Mode) (cs : List (ℕ × ℕ)) (u : Url) (after : Parts) : Type 0 where
  pub accepted : url_error u (text_bytes cs) ≡ None
  pub ends : url_end_error m (feed_all u (text_bytes cs)) ≡ None
  pub part : HasPart after (feed_all u (text_bytes cs)).part

abbrev pub TextsCover : Type 0
TextsCover = (m : Mode) (cs : List (ℕ × ℕ)) (s b : Parts) (u : Url) → u.triple ≡ NoTriple → HasPart s u.part → after_characters m cs s ≡ Ok (step.Inside b)
    → CoversCharacters m cs u b

-- A valid set comes to valid ones, and the set that is shown with a refusal is valid, also before a percent triple that is open.
abbrev pub IsValidText : UrlText → Type 0
IsValidText (Ok (step.Inside s)) = IsValidParts s
IsValidText (Ok (step.Ends n)) = ⊥
IsValidText (Err e) = IsValidParts e.before

abbrev pub TextsStayValid : Type 0
TextsStayValid = (m : Mode) (cs : List (ℕ × ℕ)) (s : Parts) → IsValidParts s → IsValidText (after_characters m cs s)

-- A member of the set behind characters comes from one before them, on whatever path of the set bears that one.
pub record IsTextOrigin (bs : List ℕ) (s : Parts) (y x : Member) : Type 0 where
  pub has : parts_have s x ≡ true
  pub leads : (u : Url) → HasPart s u.part → PartBears u.part x → PartBears (feed_all u bs).part y

abbrev pub TextsComeFrom : Type 0
TextsComeFrom = (m : Mode) (cs : List (ℕ × ℕ)) (s b : Parts) (y : Member) → after_characters m cs s ≡ Ok (step.Inside b) → parts_have b y ≡ true
    → (x : Member) × IsTextOrigin (text_bytes cs) s y x
