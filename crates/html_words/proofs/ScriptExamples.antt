-- Worked examples of types of scripts as they are written in tags, by computing.
use Rattle.std.proofs.Common.{◌≡◌, Bool, List, ℕ, true, false, codes, refl}
use Rattle.place_core.specs.page.Classes.{class_of}
use Rattle.place_core.specs.page.References.{meaning, flushed}
use Rattle.place_core.specs.page.Words.{is_script_type, script_types, trimmed_start}
use Rattle.html_words.specs.ScriptTypes.{undone_value, is_any_type}

-- a value makes a script, by the definition and by the comparison of words
record Makes (value : List ℕ) (script : Bool) : Type 0 where
  defined : is_script_type (undone_value value) ≡ script
  compared : is_any_type script_types (trimmed_start (undone_value value)) ≡ script

written_solidus : Makes (codes "text&#47;javascript") true
unfolding class_of meaning flushed lib.Utf8.encode
written_solidus = record { defined = refl; compared = refl }

white_and_parameters : Makes (codes " module ; x") true
unfolding class_of meaning flushed lib.Utf8.encode
white_and_parameters = record { defined = refl; compared = refl }

written_space : Makes (codes "&#32;module") true
unfolding class_of meaning flushed lib.Utf8.encode
written_space = record { defined = refl; compared = refl }

template : Makes (codes "text/x-template") false
unfolding class_of meaning flushed lib.Utf8.encode
template = record { defined = refl; compared = refl }

empty : Makes (codes "") true
unfolding class_of meaning flushed lib.Utf8.encode
empty = record { defined = refl; compared = refl }

upper_case : Makes (codes "MODULE") true
unfolding class_of meaning flushed lib.Utf8.encode
upper_case = record { defined = refl; compared = refl }

written_semicolon : Makes (codes "&Tab;module&#x9;&semi;&#233;") true
unfolding class_of meaning flushed lib.Utf8.encode
written_semicolon = record { defined = refl; compared = refl }

only_white : Makes (codes "&NewLine; &#x0C") true
unfolding class_of meaning flushed lib.Utf8.encode
only_white = record { defined = refl; compared = refl }

lone_ampersand : Makes (codes "module&") false
unfolding class_of meaning flushed lib.Utf8.encode
lone_ampersand = record { defined = refl; compared = refl }

no_break_space : Makes (codes "module&nbsp") false
unfolding class_of meaning flushed lib.Utf8.encode
no_break_space = record { defined = refl; compared = refl }

two_words : Makes (codes "module module") false
unfolding class_of meaning flushed lib.Utf8.encode
two_words = record { defined = refl; compared = refl }
