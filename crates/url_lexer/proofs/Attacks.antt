-- Attacks on URLs, each with what refuses it or makes it harmless, by computing. A hole is written `{{.a}}`.
use Rattle.std.proofs.Common.{◌≡◌, ℕ, true, false, codes, List, [], ◌∷◌, Some, None, refl}
use Rattle.url_lexer.specs.Alike.{UrlsAlike, behind_first, behind_letters}
use Rattle.url_lexer.specs.Classes.{url_class_of}
use Rattle.url_lexer.specs.Events.{Named, UrlEnds, url_ends}
use Rattle.url_lexer.specs.Holes.{url_after_hole, url_behind}
use Rattle.url_lexer.specs.Parts.{UrlStart, UrlOpen, UrlOpenhole, UrlPrequery, UrlBad}
use Rattle.url_lexer.specs.Plain.{IsPlainInUrl}
use Rattle.url_lexer.specs.Prefixes.{Off, Javascript, DataScheme, Differs, joined_prefix}
use Rattle.url_lexer.specs.Refusals.{url_refuses, refuses_colon, url_refuses_cut, url_refuses_hole, AmbigContext, BadHTML, partial_escape}
use Rattle.url_lexer.specs.Sanitizers.{written_in}
use Rattle.url_lexer.specs.SchemeOf.{scheme_of}
use Rattle.url_lexer.specs.Schemes.{SchemeAhead, SchemeSoFar, SchemeIs, SchemeAbsent}
use Rattle.url_lexer.specs.States.{Url, url_at, url_start, feed_all}
use Rattle.url_lexer.specs.Triples.{NoTriple}
use Rattle.url_lexer.specs.TwoPaths.{joined_part, clashes_at_colon, part_after}

abbrev read : List ℕ → Url
read bytes = feed_all url_start bytes

abbrev filled : Url → List ℕ → Url
filled u bytes = url_behind u (feed_all u bytes)

-- `x{{.a}}` with `:y`, that data ends the scheme `x`: written as `%3ay`, which ends none; as it is, it is not plain
data_ends_a_scheme_of_text : written_in (UrlOpen Off) (codes ":y") ≡ codes "%3ay"
unfolding url_class_of
data_ends_a_scheme_of_text = refl

what_is_written_ends_none : IsPlainInUrl (codes "%3ay") (read (codes "x"))
unfolding url_class_of
what_is_written_ends_none = record { leads = record { scheme = tt; whole_before = refl; whole_after = refl }; allowed = tt }

its_colon_is_not_plain : IsPlainInUrl (codes ":y") (read (codes "x")) → ⊥
unfolding url_class_of
its_colon_is_not_plain p = p.leads.scheme

-- `{{.a}}{{.b}}` with `javascript` and `:x`: the first is written as it is, since it has no `:`. The second stands in the beginning, behind a hole:
-- it is written as `%3ax`. As it is, it is not plain: the page knows the letters of the first.
first_of_two : written_in UrlStart (codes "javascript") ≡ codes "javascript"
unfolding url_class_of
first_of_two = refl

page_behind_the_first : filled url_start (codes "javascript") ≡ url_at UrlOpenhole (SchemeSoFar (codes "javascript")) true NoTriple
unfolding url_class_of
page_behind_the_first = refl

second_of_two : written_in (url_after_hole url_start).part (codes ":x") ≡ codes "%3ax"
unfolding url_class_of
second_of_two = refl

second_is_plain : IsPlainInUrl (codes "%3ax") (filled url_start (codes "javascript"))
unfolding url_class_of
second_is_plain = record { leads = record { scheme = tt; whole_before = refl; whole_after = refl }; allowed = tt }

second_as_it_is : IsPlainInUrl (codes ":x") (filled url_start (codes "javascript")) → ⊥
unfolding url_class_of
second_as_it_is p = p.leads.scheme

-- a safe scheme in two holes is not plain either: only the first hole of a URL chooses
safe_scheme_in_two : IsPlainInUrl (codes "s:x") (filled url_start (codes "http")) → ⊥
unfolding url_class_of
safe_scheme_in_two p = p.leads.scheme

behind_an_empty_first : IsPlainInUrl (codes "http:x") (filled url_start []) → ⊥
unfolding url_class_of
behind_an_empty_first p = p.leads.scheme

-- `java{{.a}}` with `script:x`: written as `script%3ax`; as it is, it is not plain
text_and_data_spell : written_in (read (codes "java")).part (codes "script:x") ≡ codes "script%3ax"
unfolding url_class_of
text_and_data_spell = refl

spelled_is_not_plain : IsPlainInUrl (codes "script:x") (read (codes "java")) → ⊥
unfolding url_class_of
spelled_is_not_plain p = p.leads.scheme

-- `java&#9;script:`: the tab is left out, of what is spelled and of the scheme. No hole stands behind it.
tab_is_left_out : read (codes "java\tscript:") ≡ url_at UrlBad (SchemeIs (codes "javascript")) false NoTriple
unfolding url_class_of
tab_is_left_out = refl

line_ends_are_left_out : read (codes "\n j\rava\nscript\r:") ≡ url_at UrlBad (SchemeIs (codes "javascript")) false NoTriple
unfolding url_class_of
line_ends_are_left_out = refl

-- `JaVaScRiPt:`
any_case : read (codes "JaVaScRiPt:") ≡ url_at UrlBad (SchemeIs (codes "javascript")) false NoTriple
unfolding url_class_of
any_case = refl

no_hole_behind_it : url_refuses_hole (read (codes "JaVaScRiPt:")) ≡ Some BadHTML
unfolding url_class_of
no_hole_behind_it = refl

-- a hole with no bytes at the start: they are plain; the page is still before the scheme, and alike to the path; both are free. A `:` behind it is refused
no_bytes_are_plain : IsPlainInUrl [] url_start
no_bytes_are_plain = record { leads = record { scheme = tt; whole_before = refl; whole_after = refl }; allowed = tt }

page_behind_no_bytes : filled url_start [] ≡ url_at UrlOpenhole SchemeAhead true NoTriple
page_behind_no_bytes = refl

alike_behind_no_bytes : UrlsAlike (url_after_hole url_start) (filled url_start [])
alike_behind_no_bytes = record { part = refl; free = refl; triple = refl; schemes = behind_first SchemeAhead tt }

colon_behind_no_bytes : url_refuses (feed_all (url_after_hole url_start) (codes "javascript")) 58 ≡ Some AmbigContext
unfolding url_class_of
colon_behind_no_bytes = refl

-- `%4{{.x}}`: the node ends in a triple; the place shown is the one two bytes before its end
node_ends_in_a_triple : url_refuses_cut (read (codes "a%4")) ≡ Some (partial_escape 2)
unfolding url_class_of
node_ends_in_a_triple = refl

digit_of_data : IsPlainInUrl (codes "1") (read (codes "a%4")) → ⊥
unfolding url_class_of
digit_of_data p = cc

-- `{{.x}}41` with `%`: written as `%25`, a whole triple; as it is, it is not plain
percent_of_data : written_in UrlStart (codes "%") ≡ codes "%25"
percent_of_data = refl

percent_is_written_whole : (feed_all (filled url_start (codes "%25")) (codes "41")).triple ≡ NoTriple
unfolding url_class_of
percent_is_written_whole = refl

percent_as_it_is : IsPlainInUrl (codes "%") url_start → ⊥
unfolding url_class_of
percent_as_it_is p = cc

-- `x{{.a}}y{{.b}}` with `?` for the first: the part does not see the `?` of data. The second hole is in the beginning still, and text `/` ends that
question_mark_of_data : filled (read (codes "x")) (codes "?q") ≡ url_at UrlOpenhole SchemeAbsent false NoTriple
unfolding url_class_of
question_mark_of_data = refl

text_behind_it : (feed_all (filled (read (codes "x")) (codes "?q")) (codes "y")).part ≡ UrlOpenhole
unfolding url_class_of
text_behind_it = refl

slash_behind_it : (feed_all (filled (read (codes "x")) (codes "?q")) (codes "y/z")).part ≡ UrlPrequery
unfolding url_class_of
slash_behind_it = refl

alike_behind_it : UrlsAlike (feed_all (url_after_hole (read (codes "x"))) (codes "y")) (feed_all (filled (read (codes "x")) (codes "yz")) (codes "y"))
unfolding url_class_of
alike_behind_it = record { part = refl; free = refl; triple = refl; schemes = behind_letters (codes "xyzy") }

-- a `:` of text behind a hole in the beginning is refused: on the page it would end a scheme that data has spelled
colon_of_text : url_refuses (url_after_hole (read (codes "x"))) 58 ≡ Some AmbigContext
unfolding url_class_of
colon_of_text = refl

what_it_would_end : (feed_all (filled url_start (codes "javascript")) (codes ":")).scheme ≡ SchemeIs (codes "javascript")
unfolding url_class_of
what_it_would_end = refl

what_it_would_tell : url_ends (feed_all (filled (read (codes "java")) (codes "script")) (codes ":")) [] ≡ UrlEnds (Named (codes "javascript")) ∷ []
unfolding url_class_of
what_it_would_tell = refl

-- `java` and `data` where two paths meet do not join to one that is known, whatever follows; a `:` is refused there
java_and_data_meet : joined_part (read (codes "java")).part (read (codes "data")).part ≡ Some (UrlOpen Differs)
unfolding url_class_of
java_and_data_meet = refl

not_java : joined_prefix (Javascript 4) (DataScheme 4) ≡ Javascript 4 → ⊥
not_java e = cc

not_data : joined_prefix (Javascript 4) (DataScheme 4) ≡ DataScheme 4 → ⊥
not_data e = cc

not_none : joined_prefix (Javascript 4) (DataScheme 4) ≡ Off → ⊥
not_none e = cc

two_lengths : joined_part (read (codes "jav")).part (read (codes "java")).part ≡ Some (UrlOpen Differs)
unfolding url_class_of
two_lengths = refl

stays_unknown : part_after (UrlOpen Differs) (codes "script") ≡ UrlOpen Differs
unfolding url_class_of
stays_unknown = refl

colon_where_they_differ : refuses_colon (UrlOpen Differs) ≡ Some AmbigContext
colon_where_they_differ = refl

colon_on_both : clashes_at_colon (read (codes "java")).part (read (codes "data")).part (codes "script") ≡ true
unfolding url_class_of
colon_on_both = refl

-- one that spells nothing yet, and one that has spelled `java`: they come apart at the next letter
apart_by_a_letter : clashes_at_colon url_start.part (read (codes "java")).part (codes "j1") ≡ true
unfolding url_class_of
apart_by_a_letter = refl

no_colon_on_both : clashes_at_colon (read (codes "java")).part (read (codes "data")).part (codes "/x") ≡ false
unfolding url_class_of
no_colon_on_both = refl

-- The scheme of all bytes of a page is what a browser sees, whatever was a hole.
bytes_of_a_page : scheme_of (codes "javascript%3ax") ≡ None
unfolding url_class_of
bytes_of_a_page = refl
