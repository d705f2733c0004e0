-- Worked examples of what is not so: bytes that are not plain, states that are not alike, what is refused, and what does not read back.
use Rattle.std.proofs.Common.{◌≡◌, ℕ, true, false, codes, List, [], ◌∷◌, Some, None, refl}
use Rattle.url_lexer.specs.Alike.{UrlsAlike, SchemesAlike, behind_first}
use Rattle.url_lexer.specs.Back.{ReadsBack}
use Rattle.url_lexer.specs.Classes.{url_class_of}
use Rattle.url_lexer.specs.ClashesAreJoined.{joined_over}
use Rattle.url_lexer.specs.Events.{Named, NoScheme, UrlEnds, url_ends}
use Rattle.url_lexer.specs.Holes.{url_after_hole}
use Rattle.url_lexer.specs.Pages.{TextPiece, HolePiece, IsAccepted}
use Rattle.url_lexer.specs.Parts.{UrlStart, UrlOpenhole, UrlQuery}
use Rattle.url_lexer.specs.Plain.{IsPlainInUrl, IsHarmless}
use Rattle.url_lexer.specs.Refusals.{url_refuses, url_refuses_cut, url_refuses_hole, AmbigContext, BadHTML, partial_escape}
use Rattle.url_lexer.specs.Schemes.{UrlScheme, SchemeIs, SchemeUnknown, is_safe_scheme}
use Rattle.url_lexer.specs.Spots.{url_spot}
use Rattle.url_lexer.specs.States.{Url, url_at, url_start, feed_all}
use Rattle.url_lexer.specs.Triples.{NoTriple}
use Rattle.url_lexer.specs.TwoPaths.{joined_part, refuses_hole_on_two}
use Rattle.url_lexer.proofs.Language.{language-laws}

abbrev read : List ℕ → Url
read bytes = feed_all url_start bytes

-- what the end tells of two states that are alike is the same; a scheme that data chose is harmless
ends_alike : (v w : Url) → UrlsAlike v w → url_ends w [] ≡ url_ends v []
ends_alike v w a = language-laws.ends v w [] a

not_told : UrlEnds (Named (codes "xy")) ∷ [] ≡ UrlEnds NoScheme ∷ [] → ⊥
not_told e = cc

not_safe_by : (s : UrlScheme) → SchemesAlike UrlOpenhole true SchemeUnknown s → IsHarmless s
not_safe_by s (behind_first r h) = h

not_safe : SchemesAlike UrlOpenhole true SchemeUnknown (SchemeIs (codes "javascript")) → ⊥
not_safe a = let h : is_safe_scheme (codes "javascript") ≡ true = not_safe_by (SchemeIs (codes "javascript")) a in cc

-- not plain where a hole is the first of the URL: a scheme that is code, with a tab in it too; another one; the empty one
code_at_start : IsPlainInUrl (codes "javascript:x") url_start → ⊥
unfolding url_class_of
code_at_start p = cc

code_with_a_tab : IsPlainInUrl (codes " java\tscript:x") url_start → ⊥
unfolding url_class_of
code_with_a_tab p = cc

other_scheme : IsPlainInUrl (codes "ftp:x") url_start → ⊥
unfolding url_class_of
other_scheme p = cc

empty_scheme : IsPlainInUrl (codes ":x") url_start → ⊥
unfolding url_class_of
empty_scheme p = cc

-- not plain in the beginning: a `:` that ends a scheme, a safe one too
colon_in_the_beginning : IsPlainInUrl (codes ":y") (read (codes "x")) → ⊥
unfolding url_class_of
colon_in_the_beginning p = p.leads.scheme

safe_scheme_in_the_beginning : IsPlainInUrl (codes "tp:y") (read (codes "ht")) → ⊥
unfolding url_class_of
safe_scheme_in_the_beginning p = p.leads.scheme

-- not plain in the query: a delimiter, a blank, a `%` that begins no triple
delimiter_in_the_query : IsPlainInUrl (codes "a&b") (read (codes "?q=")) → ⊥
unfolding url_class_of
delimiter_in_the_query p = cc

blank_in_the_query : IsPlainInUrl (codes "a b") (read (codes "?q=")) → ⊥
unfolding url_class_of
blank_in_the_query p = cc

percent_in_the_query : IsPlainInUrl (codes "100%zz") (read (codes "?q=")) → ⊥
unfolding url_class_of
percent_in_the_query p = cc

-- not plain anywhere: a triple that begins in the hole and does not end there, or that ends in it and began before
triple_beyond_the_hole : IsPlainInUrl (codes "a%4") (read (codes "/")) → ⊥
unfolding url_class_of
triple_beyond_the_hole p = cc

triple_before_the_hole : IsPlainInUrl (codes "1") (read (codes "/%4")) → ⊥
unfolding url_class_of
triple_before_the_hole p = cc

-- not plain behind a scheme that is code, not even no bytes
nothing_behind_code : IsPlainInUrl [] (read (codes "javascript:")) → ⊥
unfolding url_class_of
nothing_behind_code p = p.allowed

-- not alike: a page where data has ended a scheme, or the query of which data began
scheme_that_data_ended : UrlsAlike (url_after_hole (read (codes "x"))) (url_at UrlOpenhole (SchemeIs (codes "xy")) false NoTriple) → ⊥
unfolding url_class_of
scheme_that_data_ended a = not_told (ends_alike _ _ a)

code_that_data_chose : UrlsAlike (url_after_hole url_start) (url_at UrlOpenhole (SchemeIs (codes "javascript")) true NoTriple) → ⊥
unfolding url_class_of
code_that_data_chose a = not_safe a.schemes

query_that_data_began : UrlsAlike (url_after_hole (read (codes "x"))) (read (codes "x?")) → ⊥
unfolding url_class_of
query_that_data_began a = cc

-- told otherwise: a scheme that data would end
scheme_is_told : url_ends (read (codes "x:y")) [] ≡ url_ends (url_after_hole (read (codes "x"))) [] → ⊥
unfolding url_class_of
scheme_is_told e = cc

-- refused
colon_behind_a_hole : url_refuses (url_after_hole url_start) 58 ≡ Some AmbigContext
unfolding url_class_of
colon_behind_a_hole = refl

colon_behind_a_hole_and_text : url_refuses (feed_all (url_after_hole (read (codes "x"))) (codes "y")) 58 ≡ Some AmbigContext
unfolding url_class_of
colon_behind_a_hole_and_text = refl

node_that_ends_in_percent : url_refuses_cut (read (codes "a%")) ≡ Some (partial_escape 1)
unfolding url_class_of
node_that_ends_in_percent = refl

no_place_in_a_triple : url_spot (read (codes "a%")) ≡ None
unfolding url_class_of
no_place_in_a_triple = refl

hole_behind_code : url_refuses_hole (read (codes "VBscript:")) ≡ Some BadHTML
unfolding url_class_of
hole_behind_code = refl

hole_in_two_parts : refuses_hole_on_two (read (codes "/a")).part (read (codes "/a?")).part ≡ Some AmbigContext
unfolding url_class_of
hole_in_two_parts = refl

hole_at_start_or_not : refuses_hole_on_two url_start.part (read (codes "a")).part ≡ Some AmbigContext
unfolding url_class_of
hole_at_start_or_not = refl

-- does not read back: a `:` that is left out, a triple that is undone twice
loses_a_colon : ReadsBack UrlOpenhole (codes ":y") (codes "y") → ⊥
loses_a_colon e = cc

undone_in_the_query : ReadsBack UrlQuery (codes "%41") (codes "%41") → ⊥
undone_in_the_query e = cc

failsafe_for_a_good_text : ReadsBack UrlStart (codes "/x") (codes "#ZgotmplZ") → ⊥
failsafe_for_a_good_text e = cc

-- a whole URL that is not accepted: a hole follows the `%`
percent_before_a_hole : IsAccepted url_start (TextPiece (codes "/100%") ∷ HolePiece [] ∷ []) → ⊥
unfolding url_class_of
percent_before_a_hole a = let e : url_refuses_cut (read (codes "/100%")) ≡ None = a.1 in cc

-- No part stands for two paths that are in different parts, and stay so.
not_joined : joined_over (joined_part UrlOpenhole UrlQuery) UrlOpenhole UrlQuery (codes "a/b") ≡ None
unfolding url_class_of
not_joined = refl
