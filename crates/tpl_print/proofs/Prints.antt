-- Pieces of an action that print a part of the grammar: they fit before what may follow, and symbols that are theirs are this part.
use Rattle.std.proofs.Common.{◌≡◌, ℕ, false, List, [], ◌∷◌, ◌++◌, Option, Some, refl, sym, ◌∙◌, append_assoc, subst, true≢false}
use Rattle.std.specs.Bool.{⊤}
use Rattle.tpl_pipe.specs.Grammar.{SymbolStands, Touching, AreFields}
use Rattle.tpl_print.proofs.Pieces.{Piece, words, opens, closes, token, field, fields_pieces, meaning, Says, SpacedHead, is_number, IsToken, FitIn}
use Rattle.tpl_print.proofs.Sound.{AreNames}
use Rattle.tpl_symbol.specs.declared.symbol.Symbol.{Symbol}
use Rattle.tpl_symbol.specs.declared.symbol.SymbolKind.{SymbolKind}
use Rattle.tpl_symbol.specs.declared.symbol.SymbolKind.TheVariants as kind
use Rattle.tpl_token.specs.declared.token.TokenKind.{TokenKind}

-- these are the symbols up to the rest
abbrev pub Part : Type 1
Part = List Symbol → List Symbol → Type 0

-- one part, and another one after it
abbrev pub Then : Part → Part → Part
Then P Q symbols rest = (behind : List Symbol) × P symbols behind × Q behind rest

-- no field that touches comes first
abbrev pub Unfielded : List Symbol → Type 0
Unfielded symbols = (n : List ℕ) (more : List Symbol) → Touching n symbols more → ⊥

abbrev pub Spaced : List Piece → Type 0
Spaced [] = ⊤
Spaced (p ∷ ps) = SpacedHead (p ∷ ps)

pub record Prints (ps : List Piece) (Is : Part) : Type 0 where
  pub spaced : Spaced ps
  pub fits : (more : List Piece) → SpacedHead more → FitIn more → FitIn (ps ++ more)
  pub reads : (symbols rest : List Symbol) → Says ps symbols rest → Unfielded rest → Is symbols rest

-- the same, where also a field that touches may follow
pub record PrintsAny (ps : List Piece) (Is : Part) : Type 0 where
  pub spaced : SpacedHead ps
  pub fits : (more : List Piece) → FitIn more → FitIn (ps ++ more)
  pub reads : (symbols rest : List Symbol) → Says ps symbols rest → Is symbols rest

pub head_append : (a b : List Piece) → SpacedHead a → SpacedHead (a ++ b)
head_append [] b h = absurd h
head_append (words bytes ∷ a) b h = absurd h
head_append (opens ∷ a) b h = absurd h
head_append (closes ∷ a) b h = h
head_append (token what bytes ∷ a) b h = h
head_append (field n ∷ a) b h = absurd h

pub spaced_head : (a b : List Piece) → Spaced a → SpacedHead b → SpacedHead (a ++ b)
spaced_head [] b h k = k
spaced_head (p ∷ a) b h k = head_append (p ∷ a) b h

pub spaced_append : (a b : List Piece) → Spaced a → Spaced b → Spaced (a ++ b)
spaced_append [] b h k = k
spaced_append (p ∷ a) b h k = head_append (p ∷ a) b h

pub head_spaced : (a : List Piece) → SpacedHead a → Spaced a
head_spaced [] h = tt
head_spaced (p ∷ a) h = h

pub says_split : (a b : List Piece) (symbols rest : List Symbol) → Says (a ++ b) symbols rest → (behind : List Symbol) × Says a symbols behind × Says b behind rest
says_split [] b symbols rest h = (symbols, refl, h)
says_split (p ∷ a) b [] rest h = absurd h
says_split (p ∷ a) b (s ∷ symbols) rest h =
    let more = says_split a b symbols rest h.1 in
    (more.0, (h.0, more.1), more.2)

-- white space parts a field from what is before it
pub apart : (b : List Piece) (symbols rest : List Symbol) → SpacedHead b → Says b symbols rest → Unfielded symbols
apart [] symbols rest h says n more t = absurd h
apart (words bytes ∷ b) symbols rest h says n more t = absurd h
apart (opens ∷ b) symbols rest h says n more t = absurd h
apart (closes ∷ b) [] rest h says n more t = absurd says
apart (closes ∷ b) (s ∷ symbols) rest h says n more t = let e : kind.Close says.0.0 ≡ kind.Field n = sym says.0.1 ∙ t.0 in cc
apart (token what bytes ∷ b) [] rest h says n more t = absurd says
apart (token what bytes ∷ b) (s ∷ symbols) rest h says n more t = true≢false (sym t.1 ∙ says.0.1)
apart (field m ∷ b) symbols rest h says n more t = absurd h

pub unfielded : (b : List Piece) (symbols rest : List Symbol) → Spaced b → Says b symbols rest → Unfielded rest → Unfielded symbols
unfielded [] symbols rest h says free = subst Unfielded (sym says) free
unfielded (p ∷ b) symbols rest h says free = apart (p ∷ b) symbols rest h says

pub any : {P : Part} (ps : List Piece) → PrintsAny ps P → Prints ps P
any ps a = record { spaced = head_spaced ps a.spaced; fits = λ more spaced fit. a.fits more fit; reads = λ symbols rest says free. a.reads symbols rest says }

pub mapped : {P Q : Part} (ps : List Piece) → Prints ps P → ((symbols rest : List Symbol) → P symbols rest → Q symbols rest) → Prints ps Q
mapped ps a f = record { spaced = a.spaced; fits = a.fits; reads = λ symbols rest says free. f symbols rest (a.reads symbols rest says free) }

pub recast : {P : Part} (ps qs : List Piece) → ps ≡ qs → Prints ps P → Prints qs P
recast {P} ps qs e a = subst (λ (xs : List Piece). Prints xs P) e a

pub empty : Prints [] (λ symbols rest. symbols ≡ rest)
empty = record { spaced = tt; fits = λ more spaced fit. fit; reads = λ symbols rest says free. says }

pub seq : {P Q : Part} (a b : List Piece) → Prints a P → Prints b Q → Prints (a ++ b) (Then P Q)
seq a b x y = record {
  spaced = spaced_append a b x.spaced y.spaced;
  fits = λ more spaced fit. subst FitIn (sym (append_assoc a b more)) (x.fits (b ++ more) (spaced_head b more y.spaced spaced) (y.fits more spaced fit));
  reads = λ symbols rest says free. let h = says_split a b symbols rest says in (h.0, x.reads symbols h.0 h.1 (unfielded b h.0 rest y.spaced h.2 free), y.reads h.0 rest h.2 free);
}

pub seq_any : {P Q : Part} (a b : List Piece) → Prints a P → PrintsAny b Q → PrintsAny (a ++ b) (Then P Q)
seq_any a b x y = record {
  spaced = spaced_head a b x.spaced y.spaced;
  fits = λ more fit. subst FitIn (sym (append_assoc a b more)) (x.fits (b ++ more) (head_append b more y.spaced) (y.fits more fit));
  reads = λ symbols rest says. let h = says_split a b symbols rest says in (h.0, x.reads symbols h.0 h.1 (apart b h.0 rest y.spaced h.2), y.reads h.0 rest h.2);
}

fields_fit : (names : List (List ℕ)) (more : List Piece) → AreNames names → FitIn more → FitIn (fields_pieces names ++ more)
fields_fit [] more h fit = fit
fields_fit (n ∷ names) more h fit = (h.0, fields_fit names more h.1 fit)

fields_read : (names : List (List ℕ)) (symbols rest : List Symbol) → Says (fields_pieces names) symbols rest → Unfielded rest → AreFields names symbols rest
fields_read [] symbols rest says free = (says, subst Unfielded (sym says) free)
fields_read (n ∷ names) [] rest says free = absurd says
fields_read (n ∷ names) (s ∷ symbols) rest says free = (symbols, (says.0.0, says.0.1, refl), fields_read names symbols rest says.1 free)

-- fields that touch
pub fielded : {P : Part} (a : List Piece) (names : List (List ℕ)) → PrintsAny a P → AreNames names → Prints (a ++ fields_pieces names) (Then P (AreFields names))
fielded a names x are = record {
  spaced = head_spaced (a ++ fields_pieces names) (head_append a (fields_pieces names) x.spaced);
  fits = λ more spaced fit. subst FitIn (sym (append_assoc a (fields_pieces names) more)) (x.fits (fields_pieces names ++ more) (fields_fit names more are fit));
  reads = λ symbols rest says free. let h = says_split a (fields_pieces names) symbols rest says in (h.0, x.reads symbols h.0 h.1, fields_read names h.0 rest h.2 free);
}

same_kind : (o : Option SymbolKind) (k l : SymbolKind) → o ≡ Some k → o ≡ Some l → l ≡ k
same_kind o k l e f = cc

token_reads : (what : TokenKind) (bytes : List ℕ) (k : SymbolKind) → meaning what bytes ≡ Some k → (symbols rest : List Symbol) → Says (token what bytes ∷ []) symbols rest → SymbolStands k symbols rest
token_reads what bytes k means [] rest says = absurd says
token_reads what bytes k means (s ∷ symbols) rest says = (same_kind (meaning what bytes) k s.kind means says.0.0, says.1)

-- one token that is no number
pub one_any : (what : TokenKind) (bytes : List ℕ) (k : SymbolKind) → is_number what ≡ false → IsToken what bytes → meaning what bytes ≡ Some k → PrintsAny (token what bytes ∷ []) (SymbolStands k)
one_any what bytes k differs is means = record { spaced = tt; fits = λ more fit. (is, (λ number. absurd (true≢false (sym number ∙ differs))), fit); reads = token_reads what bytes k means }

-- one token
pub one : (what : TokenKind) (bytes : List ℕ) (k : SymbolKind) → IsToken what bytes → meaning what bytes ≡ Some k → Prints (token what bytes ∷ []) (SymbolStands k)
one what bytes k is means = record { spaced = tt; fits = λ more spaced fit. (is, (λ number. spaced), fit); reads = λ symbols rest says free. token_reads what bytes k means symbols rest says }
