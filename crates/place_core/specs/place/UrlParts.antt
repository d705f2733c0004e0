-- The part of a URL in which a path has come, as its place has it: the set of that part alone.
use Rattle.std.specs.Prelude.{true, false, Some, None}
use Rattle.place_core.specs.declared.parts.Parts.{Parts}
use Rattle.place_core.specs.declared.prefix.Prefix.{Prefix}
use Rattle.place_core.specs.declared.prefix.Prefix.TheVariants as prefix
use Rattle.url_lexer.specs.Parts.{UrlPart, UrlStart, UrlOpen, UrlOpenhole, UrlPrequery, UrlQuery, UrlBad}
use Rattle.url_lexer.specs.Prefixes as spelling

-- what the beginning spells, as a place has it
abbrev pub placed_prefix : spelling.Prefix → Prefix
placed_prefix spelling.Off = prefix.Off
placed_prefix (spelling.Javascript n) = prefix.Javascript n
placed_prefix (spelling.Vbscript n) = prefix.Vbscript n
placed_prefix (spelling.DataScheme n) = prefix.DataScheme n
placed_prefix spelling.Differs = prefix.Differs

abbrev pub parts_of : UrlPart → Parts
parts_of UrlStart = record { start = true; opened = None; openhole = false; prequery = false; query = false; bad = false }
parts_of (UrlOpen p) = record { start = false; opened = Some (placed_prefix p); openhole = false; prequery = false; query = false; bad = false }
parts_of UrlOpenhole = record { start = false; opened = None; openhole = true; prequery = false; query = false; bad = false }
parts_of UrlPrequery = record { start = false; opened = None; openhole = false; prequery = true; query = false; bad = false }
parts_of UrlQuery = record { start = false; opened = None; openhole = false; prequery = false; query = true; bad = false }
parts_of UrlBad = record { start = false; opened = None; openhole = false; prequery = false; query = false; bad = true }
