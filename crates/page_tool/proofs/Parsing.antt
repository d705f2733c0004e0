-- What `clap` reads of the words of each command.
use Rattle.std.proofs.Common.{◌≡◌, Bool, true, false, true≢false, codes, List, [], ◌∷◌, Option, Some, None, option_map, unwrap_or, ◌||◌}
use Rattle.std.proofs.Common.{cond, refl, sym, ap, ap₂, ◌∙◌}
use Rattle.std.specs.Str.{bytes_eq}
use Rattle.std.proofs.lemmas.Slice.Eq.{bytes_eq-Decides}
use Rattle.clap.specs.Lexer.{long_of, short_of}
use Rattle.clap.specs.Simple.{App, HasMatchesOf, is_simple, subcommand_of, subcommand_rows_of}
use Rattle.clap.specs.declared.parser.matches.ArgMatches.{ArgMatches}
use Rattle.clap.specs.Takes.{takes}
use Rattle.clap.specs.Walk.{Text}
use Rattle.clap.proofs.OnLiterals.{clap_on_literals}
use Rattle.page_tool.specs.Program.{command_in, program_app}
use Rattle.page_tool.specs.Words.{Command, no_command, check, render, explain, tokens, making, sections_in, is_command, is_option}
use Rattle.page_tool.specs.Words.{command_alone, command_by, command_making, command_at, command_of}

-- a word that `clap` reads as a value
record IsPlain (word : Text) : Type 0 where
  dashes : bytes_eq word (45 ∷ 45 ∷ []) ≡ false
  long : long_of word ≡ None
  short : short_of word ≡ None

plain : (word : Text) → is_option word ≡ false → IsPlain word
plain [] e = record { dashes = refl; long = refl; short = refl }
plain (b ∷ bs) e = record { dashes = rw e refl; long = rw e refl; short = rw e refl }

-- `clap` takes words, and reads the command that they are
record IsRead (words : List Text) (command : Command) : Type 0 where
  taken : takes program_app words ≡ true
  read : command_in (subcommand_of program_app words) ≡ command

is_simple_program : is_simple program_app ≡ true
unfolding clap_on_literals
is_simple_program = refl

check_taken : (dir : Text) → IsPlain dir → takes program_app (codes "check" ∷ dir ∷ []) ≡ true
unfolding clap_on_literals
check_taken dir d = rw (d.dashes, d.long, d.short) refl

check_read : (dir : Text) → IsPlain dir → command_in (subcommand_of program_app (codes "check" ∷ dir ∷ [])) ≡ check dir
unfolding clap_on_literals
check_read dir d = rw (d.dashes, d.long, d.short) refl

render_taken : (dir root : Text) → IsPlain dir → IsPlain root → takes program_app (codes "render" ∷ dir ∷ root ∷ []) ≡ true
unfolding clap_on_literals
render_taken dir root d r = rw (d.dashes, d.long, d.short, r.dashes, r.long, r.short) refl

render_read : (dir root : Text) → IsPlain dir → IsPlain root
    → command_in (subcommand_of program_app (codes "render" ∷ dir ∷ root ∷ [])) ≡ render dir root
unfolding clap_on_literals
render_read dir root d r = rw (d.dashes, d.long, d.short, r.dashes, r.long, r.short) refl

explain_taken : (dir root : Text) → IsPlain dir → IsPlain root → takes program_app (codes "explain" ∷ dir ∷ root ∷ []) ≡ true
unfolding clap_on_literals
explain_taken dir root d r = rw (d.dashes, d.long, d.short, r.dashes, r.long, r.short) refl

explain_read : (dir root : Text) → IsPlain dir → IsPlain root
    → command_in (subcommand_of program_app (codes "explain" ∷ dir ∷ root ∷ [])) ≡ explain dir root
unfolding clap_on_literals
explain_read dir root d r = rw (d.dashes, d.long, d.short, r.dashes, r.long, r.short) refl

tokens_taken : takes program_app (codes "tokens" ∷ []) ≡ true
unfolding clap_on_literals
tokens_taken = refl

tokens_read : command_in (subcommand_of program_app (codes "tokens" ∷ [])) ≡ tokens
unfolding clap_on_literals
tokens_read = refl

make_taken : (word : Text) → IsPlain word → takes program_app (codes "make" ∷ word ∷ []) ≡ true
unfolding clap_on_literals
make_taken word d = rw (d.dashes, d.long, d.short) refl

make_read : (word : Text) → IsPlain word → command_in (subcommand_of program_app (codes "make" ∷ word ∷ [])) ≡ making (sections_in word)
unfolding clap_on_literals
make_read word d = rw (d.dashes, d.long, d.short) refl

-- a name is this word
pub named : (name word : Text) → bytes_eq name word ≡ true → name ≡ word
named name word e = (bytes_eq-Decides name word).0 e

on_tokens : (name : Text) (b : Bool) → bytes_eq name (codes "tokens") ≡ b → is_command (cond b tokens no_command) ≡ true
    → IsRead (name ∷ []) (cond b tokens no_command)
on_tokens name true e is = rw (named name _ e) (record { taken = tokens_taken; read = tokens_read })
on_tokens name false e is = absurd (true≢false (sym is))

on_make : (name word : Text) (b : Bool) → bytes_eq name (codes "make") ≡ b → IsPlain word
    → is_command (cond b (making (sections_in word)) no_command) ≡ true
    → IsRead (name ∷ word ∷ []) (cond b (making (sections_in word)) no_command)
on_make name word true e d is = rw (named name _ e) (record { taken = make_taken word d; read = make_read word d })
on_make name word false e d is = absurd (true≢false (sym is))

on_check : (name word : Text) (b : Bool) → bytes_eq name (codes "check") ≡ b → IsPlain word
    → is_command (cond b (check word) (command_making name word)) ≡ true
    → IsRead (name ∷ word ∷ []) (cond b (check word) (command_making name word))
on_check name word true e d is = rw (named name _ e) (record { taken = check_taken word d; read = check_read word d })
on_check name word false e d is = on_make name word (bytes_eq name (codes "make")) refl d is

on_explain : (name dir root : Text) (b : Bool) → bytes_eq name (codes "explain") ≡ b → IsPlain dir → IsPlain root
    → is_command (cond b (explain dir root) no_command) ≡ true
    → IsRead (name ∷ dir ∷ root ∷ []) (cond b (explain dir root) no_command)
on_explain name dir root true e d r is =
    rw (named name _ e) (record { taken = explain_taken dir root d r; read = explain_read dir root d r })
on_explain name dir root false e d r is = absurd (true≢false (sym is))

at_root : (name dir root : Text) (b : Bool) → bytes_eq name (codes "render") ≡ b → IsPlain dir → IsPlain root
    → is_command (cond b (render dir root) (cond (bytes_eq name (codes "explain")) (explain dir root) no_command)) ≡ true
    → IsRead (name ∷ dir ∷ root ∷ []) (cond b (render dir root) (cond (bytes_eq name (codes "explain")) (explain dir root) no_command))
at_root name dir root true e d r is = rw (named name _ e) (record { taken = render_taken dir root d r; read = render_read dir root d r })
at_root name dir root false e d r is = on_explain name dir root (bytes_eq name (codes "explain")) refl d r is

one_word : (name word : Text) (b : Bool) → is_option word ≡ b → is_command (cond b no_command (command_by name word)) ≡ true
    → IsRead (name ∷ word ∷ []) (cond b no_command (command_by name word))
one_word name word true e is = absurd (true≢false (sym is))
one_word name word false e is = on_check name word (bytes_eq name (codes "check")) refl (plain word e) is

two_words : (name dir root : Text) (b c : Bool) → is_option dir ≡ b → is_option root ≡ c
    → is_command (cond (b || c) no_command (command_at name dir root)) ≡ true
    → IsRead (name ∷ dir ∷ root ∷ []) (cond (b || c) no_command (command_at name dir root))
two_words name dir root true c e f is = absurd (true≢false (sym is))
two_words name dir root false true e f is = absurd (true≢false (sym is))
two_words name dir root false false e f is = at_root name dir root (bytes_eq name (codes "render")) refl (plain dir e) (plain root f) is

-- words that are a command are read so
command_read : (words : List Text) → is_command (command_of words) ≡ true → IsRead words (command_of words)
command_read [] is = absurd (true≢false (sym is))
command_read (name ∷ []) is = on_tokens name (bytes_eq name (codes "tokens")) refl is
command_read (name ∷ word ∷ []) is = one_word name word (is_option word) refl is
command_read (name ∷ dir ∷ root ∷ []) is = two_words name dir root (is_option dir) (is_option root) refl refl is
command_read (name ∷ dir ∷ root ∷ more ∷ rest) is = absurd (true≢false (sym is))

-- a program that is this one takes them
pub command_taken : (a : App) (words : List Text) → a ≡ program_app → is_command (command_of words) ≡ true → takes a words ≡ true
command_taken a words same is = ap (λ (b : App). takes b words) same ∙ (command_read words is).taken

-- and its matches are the command
pub command_matched : (a : App) (words : List Text) (m : ArgMatches) → a ≡ program_app → is_command (command_of words) ≡ true
    → HasMatchesOf a words m
    → command_in (subcommand_rows_of m) ≡ command_of words
command_matched a words m same is has =
    ap command_in ((has (ap is_simple same ∙ is_simple_program)).1 ∙ ap (λ (b : App). subcommand_of b words) same)
    ∙ (command_read words is).read

-- an option that has this first part, and this second part of a pair, has the pair
pub pair_some : {X A B : Type 0} (o : Option X) (f : X → A) (g : X → B) (a : A) (b : B) → Some a ≡ option_map f o
    → Some b ≡ option_map (λ p. p.1) (option_map {U = A × B} (λ x. (f x, g x)) o) → option_map {U = A × B} (λ x. (f x, g x)) o ≡ Some (a, b)
pair_some None f g a b e h = absurd (true≢false (ap (λ o. Rattle.std.specs.Option.is_some o) e))
pair_some (Some x) f g a b e h = ap₂ (λ u v. Some (u, v)) (sym (ap (λ o. unwrap_or o a) e)) (sym (ap (λ o. unwrap_or o b) h))

-- equal values of three variables
pub ap_three : {A B C D : Type 0} (f : A → B → C → D) (a x : A) (b y : B) (c z : C) → a ≡ x → b ≡ y → c ≡ z → f a b c ≡ f x y z
ap_three f a x b y c z p q r = rw (p, q, r) refl
