-- Worked examples of URLs: how they are read, what a hole and the end of a node do, and what is plain, by computing.
use Rattle.std.proofs.Common.{◌≡◌, ℕ, true, false, codes, List, [], ◌∷◌, Some, None, refl}
use Rattle.url_lexer.specs.Alike.{UrlsAlike, behind_letters, behind_slash, decided_by_data}
use Rattle.url_lexer.specs.Back.{triples_undone, ReadsBack}
use Rattle.url_lexer.specs.Classes.{url_class_of}
use Rattle.url_lexer.specs.ClashesAreJoined.{joined_over}
use Rattle.url_lexer.specs.Events.{Named, Free, UrlByte, UrlEnds, emits_all, url_ends}
use Rattle.url_lexer.specs.Holes.{url_after_hole, url_behind}
use Rattle.url_lexer.specs.Pages.{TextPiece, HolePiece, IsAccepted}
use Rattle.url_lexer.specs.Parts.{UrlStart, UrlOpen, UrlOpenhole, UrlPrequery, UrlQuery, UrlBad}
use Rattle.url_lexer.specs.Plain.{IsPlainInUrl}
use Rattle.url_lexer.specs.Prefixes.{Off, Javascript, Vbscript, Differs}
use Rattle.url_lexer.specs.Refusals.{url_refuses_cut}
use Rattle.url_lexer.specs.Sanitizers.{url_filter, url_norm, url_open, url_query, written_in}
use Rattle.url_lexer.specs.SchemeOf.{scheme_of}
use Rattle.url_lexer.specs.Schemes.{SchemeSoFar, SchemeIs, SchemeAbsent, SchemeUnknown}
use Rattle.url_lexer.specs.Spots.{url_spot}
use Rattle.url_lexer.specs.States.{Url, url_at, url_start, feed_all}
use Rattle.url_lexer.specs.Triples.{NoTriple, AfterPercent, AfterDigit}
use Rattle.url_lexer.specs.TriplesAreWhole.{undone_each}
use Rattle.url_lexer.specs.TwoPaths.{joined_part}

-- the state after bytes from the beginning, and after the bytes of a hole on a page
abbrev read : List ℕ → Url
read bytes = feed_all url_start bytes

abbrev filled : Url → List ℕ → Url
filled u bytes = url_behind u (feed_all u bytes)

-- reading: a scheme in any case, with blanks before it and a tab in it
scheme_of_a_page : read (codes " HT\tTP:x") ≡ url_at UrlPrequery (SchemeIs (codes "http")) false NoTriple
unfolding url_class_of
scheme_of_a_page = refl

empty_scheme : read (codes ":x") ≡ url_at UrlPrequery (SchemeIs []) false NoTriple
unfolding url_class_of
empty_scheme = refl

slash_before_the_colon : read (codes "a/b:c") ≡ url_at UrlPrequery SchemeAbsent false NoTriple
unfolding url_class_of
slash_before_the_colon = refl

query_before_the_colon : read (codes "?a:b") ≡ url_at UrlQuery SchemeAbsent false NoTriple
unfolding url_class_of
query_before_the_colon = refl

fragment : read (codes "page#top") ≡ url_at UrlQuery SchemeAbsent false NoTriple
unfolding url_class_of
fragment = refl

no_colon : read (codes "mail") ≡ url_at (UrlOpen Off) (SchemeSoFar (codes "mail")) false NoTriple
unfolding url_class_of
no_colon = refl

blank_in_the_beginning : read (codes "java script:") ≡ url_at UrlPrequery (SchemeIs (codes "java script")) false NoTriple
unfolding url_class_of
blank_in_the_beginning = refl

scheme_of_whole_bytes : scheme_of (codes "\n Ma\rIl/TO:a") ≡ None
unfolding url_class_of
scheme_of_whole_bytes = refl

scheme_in_words : scheme_of (codes "\n Ma\rIl\nTO:a:b") ≡ Some (codes "mailto")
unfolding url_class_of
scheme_in_words = refl

-- what the beginning spells
spells_java : (read (codes "Ja\nVa")).part ≡ UrlOpen (Javascript 4)
unfolding url_class_of
spells_java = refl

spells_vb : (read (codes " vB")).part ≡ UrlOpen (Vbscript 2)
unfolding url_class_of
spells_vb = refl

data_scheme : (read (codes "data:text/html")).part ≡ UrlBad
unfolding url_class_of
data_scheme = refl

longer_than_data : (read (codes "datas:x")).part ≡ UrlPrequery
unfolding url_class_of
longer_than_data = refl

-- events, the last first; the scheme is told at the end alone
events : url_ends (read (codes "a:b")) (emits_all url_start (codes "a:b") []) ≡ UrlEnds (Named (codes "a")) ∷ UrlByte 98 ∷ UrlByte 58 ∷ UrlByte 97 ∷ []
unfolding url_class_of
events = refl

-- percent triples: whole, pending, and what is none
whole_triple : (read (codes "%4a")).triple ≡ NoTriple
unfolding url_class_of
whole_triple = refl

second_percent : (read (codes "%4%")).triple ≡ AfterPercent
unfolding url_class_of
second_percent = refl

no_digit : (read (codes "%g4")).triple ≡ NoTriple
unfolding url_class_of
no_digit = refl

one_digit : (read (codes "x%41%B")).triple ≡ AfterDigit
unfolding url_class_of
one_digit = refl

node_that_ends_whole : url_refuses_cut (read (codes "100%41")) ≡ None
unfolding url_class_of
node_that_ends_whole = refl

-- places where a node may end
place_of_a_path : url_spot (read (codes "/s?q=")) ≡ Some UrlQuery
unfolding url_class_of
place_of_a_path = refl

place_behind_a_hole : url_spot (url_after_hole (read (codes "x"))) ≡ Some UrlOpenhole
unfolding url_class_of
place_behind_a_hole = refl

-- a hole on a path: at the start, in the beginning, and past it
hole_at_start : url_after_hole url_start ≡ url_at UrlOpenhole SchemeUnknown true NoTriple
hole_at_start = refl

hole_behind_blanks : url_after_hole (read (codes " \n")) ≡ url_at UrlOpenhole SchemeUnknown true NoTriple
unfolding url_class_of
hole_behind_blanks = refl

hole_in_the_beginning : url_after_hole (read (codes "x")) ≡ url_at UrlOpenhole SchemeUnknown false NoTriple
unfolding url_class_of
hole_in_the_beginning = refl

hole_in_the_query : url_after_hole (read (codes "http://h?q=")) ≡ url_at UrlQuery (SchemeIs (codes "http")) false NoTriple
unfolding url_class_of
hole_in_the_query = refl

hole_then_slash : feed_all (url_after_hole url_start) (codes "/x:y") ≡ url_at UrlPrequery SchemeAbsent true NoTriple
unfolding url_class_of
hole_then_slash = refl

-- a hole on a page: it knows the letters of the data
page_knows_the_letters : filled (read (codes "x")) (codes "yz") ≡ url_at UrlOpenhole (SchemeSoFar (codes "xyz")) false NoTriple
unfolding url_class_of
page_knows_the_letters = refl

page_knows_the_scheme : filled url_start (codes "http://h") ≡ url_at UrlOpenhole (SchemeIs (codes "http")) true NoTriple
unfolding url_class_of
page_knows_the_scheme = refl

data_begins_the_url : url_ends (filled url_start (codes "http://h")) [] ≡ url_ends (url_after_hole url_start) []
unfolding url_class_of
data_begins_the_url = refl

told_free : url_ends (filled url_start (codes "http://h")) [] ≡ UrlEnds Free ∷ []
unfolding url_class_of
told_free = refl

-- a page is alike to its path
alike_in_the_beginning : UrlsAlike (url_after_hole (read (codes "x"))) (filled (read (codes "x")) (codes "yz"))
unfolding url_class_of
alike_in_the_beginning = record { part = refl; free = refl; triple = refl; schemes = behind_letters (codes "xyz") }

alike_behind_a_slash : UrlsAlike (url_after_hole (read (codes "x"))) (filled (read (codes "x")) (codes "/y:z"))
unfolding url_class_of
alike_behind_a_slash = record { part = refl; free = refl; triple = refl; schemes = behind_slash }

alike_where_data_chose : UrlsAlike (feed_all (url_after_hole url_start) (codes "/x")) (feed_all (filled url_start (codes "https://h")) (codes "/x"))
unfolding url_class_of
alike_where_data_chose = record { part = refl; free = refl; triple = refl; schemes = decided_by_data UrlPrequery (SchemeIs (codes "https")) tt tt refl }

-- plain: a safe scheme at the start, no scheme in the beginning, anything past it, unreserved bytes and triples in the query
plain_at_start : IsPlainInUrl (codes "HTTPS://h/a:b?c") url_start
unfolding url_class_of
plain_at_start = record { leads = record { scheme = refl; whole_before = refl; whole_after = refl }; allowed = tt }

plain_in_the_beginning : IsPlainInUrl (codes "y/b:c") (read (codes "x"))
unfolding url_class_of
plain_in_the_beginning = record { leads = record { scheme = tt; whole_before = refl; whole_after = refl }; allowed = tt }

plain_past_the_beginning : IsPlainInUrl (codes "a:b?c&d") (read (codes "/"))
unfolding url_class_of
plain_past_the_beginning = record { leads = record { scheme = refl; whole_before = refl; whole_after = refl }; allowed = tt }

plain_in_the_query : IsPlainInUrl (codes "a-b%20%C3%a9") (read (codes "/s?q="))
unfolding url_class_of
plain_in_the_query = record { leads = record { scheme = refl; whole_before = refl; whole_after = refl }; allowed = refl }

-- what is written
filter_code : url_filter (codes "javascript:x") ≡ codes "#ZgotmplZ"
filter_code = refl

filter_any_case : url_filter (codes "HTTP:x") ≡ codes "HTTP:x"
filter_any_case = refl

filter_slash_first : url_filter (codes "a/b:c") ≡ codes "a/b:c"
filter_slash_first = refl

filter_query_first : url_filter (codes "?a:b") ≡ codes "#ZgotmplZ"
filter_query_first = refl

open_colon : url_open (codes ":y") ≡ codes "%3ay"
unfolding url_class_of
open_colon = refl

open_slash_first : url_open (codes "/a:b") ≡ codes "/a:b"
unfolding url_class_of
open_slash_first = refl

open_several_colons : url_open (codes "a:b:c?d:e") ≡ codes "a%3ab%3ac?d:e"
unfolding url_class_of
open_several_colons = refl

norm_triples : url_norm (codes "a %4g%4F(\"") ≡ codes "a%20%254g%4F%28%22"
norm_triples = refl

norm_bytes : url_norm (0 ∷ 195 ∷ 169 ∷ []) ≡ codes "%00%c3%a9"
norm_bytes = refl

query : url_query (codes "a&b=c d") ≡ codes "a%26b%3dc%20d"
query = refl

query_percent : url_query (codes "%41") ≡ codes "%2541"
query_percent = refl

at_start_both : written_in UrlStart (codes "HTTP://x/?a&b") ≡ codes "HTTP://x/?a&b"
at_start_both = refl

-- reading back
undone_triples : triples_undone (codes "%3ay%4%41%25") ≡ codes ":y%4A%"
undone_triples = refl

undone_once : triples_undone (codes "%2541") ≡ codes "%41"
undone_once = refl

back_in_the_beginning : ReadsBack UrlOpenhole (codes ":y %41") (url_open (codes ":y %41"))
unfolding url_class_of
back_in_the_beginning = refl

back_in_the_query : ReadsBack UrlQuery (codes "a&b %41") (url_query (codes "a&b %41"))
back_in_the_query = refl

back_as_the_failsafe : ReadsBack UrlStart (codes "javascript:x") (written_in UrlStart (codes "javascript:x"))
back_as_the_failsafe = refl

-- whole URLs: the end of the last text ends no node inside the URL
accepted_percent_at_the_end : IsAccepted url_start (TextPiece (codes "/100%") ∷ [])
unfolding url_class_of
accepted_percent_at_the_end = ((refl, (refl, (refl, (refl, (refl, tt))))), tt, tt)

accepted_behind_a_hole : IsAccepted url_start (HolePiece [] ∷ TextPiece (codes "/100%") ∷ [])
unfolding url_class_of
accepted_behind_a_hole = (refl, ((refl, (refl, (refl, (refl, (refl, tt))))), tt, tt))

-- two paths: what stands for both says that they differ, where they do so at once, and where they do so at a later byte; it stays so
joined_at_once : joined_over (joined_part (UrlOpen (Javascript 4)) (UrlOpen Off)) (UrlOpen (Javascript 4)) (UrlOpen Off) (codes "x") ≡ Some (UrlOpen Differs)
unfolding url_class_of
joined_at_once = refl

joined_later : joined_over (joined_part UrlStart (UrlOpen (Javascript 4))) UrlStart (UrlOpen (Javascript 4)) (codes "j1") ≡ Some (UrlOpen Differs)
unfolding url_class_of
joined_later = refl

joined_the_same : joined_over (joined_part UrlStart UrlStart) UrlStart UrlStart (codes "ja") ≡ Some (UrlOpen (Javascript 2))
unfolding url_class_of
joined_the_same = refl

-- the triples of each piece, and of all bytes
triples_of_pieces : undone_each (TextPiece (codes "/%2") ∷ []) ≡ codes "/%2"
triples_of_pieces = refl

triples_of_a_hole : undone_each (TextPiece (codes "/?a=%41") ∷ HolePiece (codes "%26") ∷ []) ≡ codes "/?a=A&"
triples_of_a_hole = refl

-- limits: a value right behind a host chooses the host; dot segments are plain; a tab in the text hides a `%` from the triples
chooses_the_host : IsPlainInUrl (codes "@evil.example/") (read (codes "https://good.example"))
unfolding url_class_of
chooses_the_host = record { leads = record { scheme = refl; whole_before = refl; whole_after = refl }; allowed = tt }

longer_host : IsPlainInUrl (codes ".evil.example/") (read (codes "https://good.example"))
unfolding url_class_of
longer_host = record { leads = record { scheme = refl; whole_before = refl; whole_after = refl }; allowed = tt }

host_behind_a_port : IsPlainInUrl (codes ":80@evil.example/") (read (codes "https://good.example"))
unfolding url_class_of
host_behind_a_port = record { leads = record { scheme = refl; whole_before = refl; whole_after = refl }; allowed = tt }

dot_segments : IsPlainInUrl (codes "../../x") (read (codes "/a/"))
unfolding url_class_of
dot_segments = record { leads = record { scheme = refl; whole_before = refl; whole_after = refl }; allowed = tt }

dots_behind_a_tab : IsPlainInUrl (codes "2e%2e/x") (read (codes "/a/%\t"))
unfolding url_class_of
dots_behind_a_tab = record { leads = record { scheme = refl; whole_before = refl; whole_after = refl }; allowed = tt }

tab_hides_a_percent : url_refuses_cut (read (codes "/a/%\t")) ≡ None
unfolding url_class_of
tab_hides_a_percent = refl
