-- By whether a template literal is open.
use Rattle.std.proofs.Common.{◌≡◌, ℕ, List, [], ◌∷◌, true, false, None, refl, true≢false, sym}
use Rattle.js_lexer.specs.States.{At}
use Rattle.js_lexer.specs.Trails.{is_empty}
use Rattle.js_lexer.specs.declared.class.ScriptClass.{ScriptClass}
use Rattle.page_piece.specs.declared.piece.PieceKind.TheVariants as kind
use Rattle.page_script.specs.PieceEnds.{token_ends, ends_before, token_closed, kind_closed, is_code, is_between, token_cut, template_cut, kind_cut}

pub before-none : (fs : List ℕ) (a : At) (c : ScriptClass) (b : ℕ) → is_empty fs ≡ true → ends_before fs a c b ≡ token_ends a c b
before-none [] a c b e = refl
before-none (n ∷ fs) a c b e = absurd (true≢false (sym e))

pub before-some : (fs : List ℕ) (a : At) (c : ScriptClass) (b : ℕ) → is_empty fs ≡ false → ends_before fs a c b ≡ None
before-some [] a c b e = absurd (true≢false e)
before-some (n ∷ fs) a c b e = refl

pub closed-none : (fs : List ℕ) (a : At) → is_empty fs ≡ true → kind_closed fs a ≡ token_closed a
closed-none [] a e = refl
closed-none (n ∷ fs) a e = absurd (true≢false (sym e))

pub closed-some : (fs : List ℕ) (a : At) → is_empty fs ≡ false → kind_closed fs a ≡ kind.Template
closed-some [] a e = absurd (true≢false e)
closed-some (n ∷ fs) a e = refl

pub between-none : (fs : List ℕ) (a : At) → is_empty fs ≡ true → is_between fs a ≡ is_code a
between-none [] a e = refl
between-none (n ∷ fs) a e = absurd (true≢false (sym e))

pub between-some : (fs : List ℕ) (a : At) → is_empty fs ≡ false → is_between fs a ≡ false
between-some [] a e = absurd (true≢false e)
between-some (n ∷ fs) a e = refl

pub cut-none : (fs : List ℕ) (a : At) → is_empty fs ≡ true → kind_cut fs a ≡ token_cut a
cut-none [] a e = refl
cut-none (n ∷ fs) a e = absurd (true≢false (sym e))

pub cut-some : (fs : List ℕ) (a : At) → is_empty fs ≡ false → kind_cut fs a ≡ template_cut a
cut-some [] a e = absurd (true≢false e)
cut-some (n ∷ fs) a e = refl

pub ruleset outside_rules = (before-none, before-some, closed-none, closed-some, between-none, between-some, cut-none, cut-some)
