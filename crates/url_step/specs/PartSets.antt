-- The parts of a URL at which several paths of a template stand, as one set: what a byte of text and a hole make of the set, and what is refused.
use Rattle.std.specs.Prelude.{◌≡◌, ◌+◌, ℕ, List, [], ◌∷◌, Bool, true, false, ◌||◌, not, nat_lt, Option, Some, None, option_map, is_some, Result, Ok, Err, if◌then◌else◌}
use Rattle.place_core.specs.page.Tags.{refusal_code}
use Rattle.place_core.specs.place.LanguagePlaces.{both_parts, both_prefixes}
use Rattle.place_core.specs.place.UrlParts.{parts_of, placed_prefix}
use Rattle.place_core.specs.declared.chain.Chain.{Chain}
use Rattle.place_core.specs.declared.code.Code.{Code}
use Rattle.place_core.specs.declared.parts.Parts.{Parts}
use Rattle.place_core.specs.declared.prefix.Prefix.{Prefix}
use Rattle.place_core.specs.declared.prefix.Prefix.TheVariants as prefix
use Rattle.place_core.specs.declared.san.San.{San}
use Rattle.place_core.specs.declared.san.San.TheVariants as san
use Rattle.url_lexer.specs.Parts.{UrlPart}
use Rattle.url_lexer.specs.Prefixes as spelling
use Rattle.url_lexer.specs.Refusals.{UrlRefusal, AmbigContext, BadHTML}
use Rattle.url_lexer.specs.declared.class.UrlClass.{UrlClass}
use Rattle.url_lexer.specs.declared.class.UrlClass.TheVariants as class
use Rattle.url_step.specs.Chains.{chain_of}

-- a prefix of a place as the lexer has it
abbrev pub spelled_prefix : Prefix → spelling.Prefix
spelled_prefix prefix.Off = spelling.Off
spelled_prefix (prefix.Javascript n) = spelling.Javascript n
spelled_prefix (prefix.Vbscript n) = spelling.Vbscript n
spelled_prefix (prefix.DataScheme n) = spelling.DataScheme n
spelled_prefix prefix.Differs = spelling.Differs

-- One set is below another: joining them gives that one. A part is in a set: the set of a path that is there is below it. So a set whose prefix is
-- the one that differs stands for paths with any prefix.
abbrev pub PartsBelow : Parts → Parts → Type 0
PartsBelow s t = both_parts s t ≡ t

abbrev pub HasPart : Parts → UrlPart → Type 0
HasPart s p = PartsBelow (parts_of p) s

-- what the beginning spells behind a character; where the URL has not begun, it begins with the character
abbrev pub first_spelled : Bool → ℕ → Option Prefix
first_spelled true b = Some (placed_prefix (spelling.prefix_of_first b))
first_spelled false b = None

abbrev pub next_spelled : ℕ → Prefix → Prefix
next_spelled b p = placed_prefix (spelling.prefix_with_letter (spelled_prefix p) b)

-- whether paths in the beginning have a scheme that is code behind a `:`, and whether they have another one; whether their prefixes differ
abbrev pub spells_code : Option Prefix → Bool
spells_code None = false
spells_code (Some p) = spelling.is_whole_word (spelled_prefix p)

abbrev pub spells_no_code : Option Prefix → Bool
spells_no_code None = false
spells_no_code (Some p) = not (spelling.is_whole_word (spelled_prefix p))

abbrev pub spells_apart : Option Prefix → Bool
spells_apart (Some prefix.Differs) = true
spells_apart (Some prefix.Off) = false
spells_apart (Some (prefix.Javascript n)) = false
spells_apart (Some (prefix.Vbscript n)) = false
spells_apart (Some (prefix.DataScheme n)) = false
spells_apart None = false

-- behind a byte of this class
abbrev pub parts_next : Parts → UrlClass → ℕ → Parts
parts_next s class.TabOrNewline b = s
parts_next s class.ControlOrSpace b = record {
  start = s.start;
  opened = option_map (next_spelled b) s.opened;
  openhole = s.openhole;
  prequery = s.prequery;
  query = s.query;
  bad = s.bad;
}
parts_next s class.Colon b = record {
  start = false;
  opened = None;
  openhole = s.openhole;
  prequery = s.start || (spells_no_code s.opened || s.prequery);
  query = s.query;
  bad = spells_code s.opened || s.bad;
}
parts_next s class.Slash b = record {
  start = false;
  opened = None;
  openhole = false;
  prequery = s.start || (is_some s.opened || (s.openhole || s.prequery));
  query = s.query;
  bad = s.bad;
}
parts_next s class.QueryMark b = record {
  start = false;
  opened = None;
  openhole = false;
  prequery = false;
  query = s.start || (is_some s.opened || (s.openhole || (s.prequery || s.query)));
  bad = s.bad;
}
parts_next s c b = record {
  start = false;
  opened = both_prefixes (first_spelled s.start b) (option_map (next_spelled b) s.opened);
  openhole = s.openhole;
  prequery = s.prequery;
  query = s.query;
  bad = s.bad;
}

-- A `:` is refused where a path is in the beginning behind a hole, or where paths in the beginning have spelled different things.
abbrev pub if_ambiguous : Bool → Option UrlRefusal
if_ambiguous true = Some AmbigContext
if_ambiguous false = None

abbrev pub parts_error : Parts → UrlClass → Option UrlRefusal
parts_error s class.Colon = if_ambiguous (s.openhole || spells_apart s.opened)
parts_error s c = None

-- behind a hole
abbrev pub parts_at_hole : Parts → Parts
parts_at_hole s = record {
  start = false;
  opened = None;
  openhole = s.start || (is_some s.opened || s.openhole);
  prequery = s.prequery;
  query = s.query;
  bad = s.bad;
}

-- A hole is refused where paths are in several parts, and else where they are behind a scheme that is code.
abbrev pub one_if : Bool → ℕ
one_if true = 1
one_if false = 0

abbrev pub part_count : Parts → ℕ
part_count s = one_if s.start + (one_if (is_some s.opened) + (one_if s.openhole + (one_if s.prequery + (one_if s.query + one_if s.bad))))

abbrev pub if_bad : Bool → Option UrlRefusal
if_bad true = Some BadHTML
if_bad false = None

abbrev pub parts_hole_error : Parts → Option UrlRefusal
parts_hole_error s = if nat_lt 1 (part_count s) then Some AmbigContext else if_bad s.bad

-- as the code answers: by the codes of errors, and at a hole with the set behind it where nothing is refused
abbrev pub parts_or_refusal : Option UrlRefusal → Parts → Result Parts Code
parts_or_refusal None s = Ok s
parts_or_refusal (Some e) s = Err (refusal_code e)

abbrev pub hole_answer : Parts → Result Parts Code
hole_answer s = parts_or_refusal (parts_hole_error s) (parts_at_hole s)

-- The sanitizers of a value, where all paths are in one part: data may choose the scheme only where the hole is the first of the URL; in the
-- beginning, also behind a hole, it may end none.
abbrev pub part_sans : Parts → List San
part_sans s = if s.start then san.UrlFilter ∷ san.UrlNorm ∷ [] else (if s.prequery then san.UrlNorm ∷ []
    else (if s.query then san.UrlQuery ∷ [] else san.UrlOpen ∷ []))

abbrev pub hole_with_chain : Parts → Result Parts Code → Result (Parts × Chain) Code
hole_with_chain before (Ok after) = Ok (after, chain_of (part_sans before))
hole_with_chain before (Err e) = Err e
