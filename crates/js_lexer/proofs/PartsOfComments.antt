-- What the trail knows of a part of a block comment: whether the end of a line is in it.
use Rattle.std.proofs.Common.{◌≡◌, inl, inr, ℕ, nat_eq, if◌then◌else◌, Bool, true, false, List, [], ◌∷◌, ◌++◌, refl, sym, ap, ◌∙◌, subst, true≢false, eqb-true}
use Rattle.std.proofs.lemmas.Bool.{cases_Bool}
use Rattle.std.specs.Prelude.{⊤}
use Rattle.js_lexer.specs.Events.{ScriptEvent}
use Rattle.js_lexer.specs.Feeding.{feed_script, read_on, script_emits, script_reading}
use Rattle.js_lexer.specs.Nodes.{script_state_after}
use Rattle.js_lexer.specs.States.{At, BlockComment, PartLines, HasLine, NoLineYet, ScriptState}
use Rattle.js_lexer.specs.Trails.{lines_after, lines_with}
use Rattle.js_lexer.specs.Written.{is_block, has_line_end, blank_for, blank_of}

abbrev pub lines_over : PartLines → List ℕ → PartLines
lines_over lines [] = lines
lines_over lines (b ∷ bs) = lines_over (lines_with lines b) bs

abbrev has_line : PartLines → Bool
has_line HasLine = true
has_line (NoLineYet begun) = false

line-stays : (bs : List ℕ) → has_line (lines_over HasLine bs) ≡ true
line-stays [] = refl
line-stays (b ∷ bs) = line-stays bs

-- the bytes of which the ends of lines are made; and no other one
pub record IsNoEnd (b : ℕ) : Type 0 where
  pub not10 : nat_eq b 10 ≡ false
  pub is10 : nat_eq 10 b ≡ false
  pub not13 : nat_eq b 13 ≡ false
  pub is13 : nat_eq 13 b ≡ false
  pub not226 : nat_eq b 226 ≡ false
  pub is226 : nat_eq 226 b ≡ false
  pub not128 : nat_eq b 128 ≡ false
  pub is128 : nat_eq 128 b ≡ false
  pub not168 : nat_eq b 168 ≡ false
  pub is168 : nat_eq 168 b ≡ false
  pub not169 : nat_eq b 169 ≡ false
  pub is169 : nat_eq 169 b ≡ false

data EndByte : ℕ → Type 0 where
  IsFeed : EndByte 10
  IsReturn : EndByte 13
  IsFirst : EndByte 226
  IsSecond : EndByte 128
  IsLast : EndByte 168
  IsOtherLast : EndByte 169
  IsNone : (b : ℕ) → IsNoEnd b → EndByte b

swapped : (b c : ℕ) → nat_eq b c ≡ false → nat_eq c b ≡ false
swapped b c e = elim (cases_Bool (nat_eq c b)) [
  | inl f ↦ absurd (true≢false (sym f ∙ ap (λ (x : ℕ). nat_eq x b) (eqb-true c b f) ∙ ap (λ (x : ℕ). nat_eq b x) (sym (eqb-true c b f)) ∙ e))
  | inr f ↦ f
]

end-byte : (b : ℕ) → EndByte b
end-byte b =
    elim (cases_Bool (nat_eq b 10)) [
      | inl e10 ↦ subst EndByte (sym (eqb-true b 10 e10)) IsFeed
      | inr e10 ↦
          elim (cases_Bool (nat_eq b 13)) [
            | inl e13 ↦ subst EndByte (sym (eqb-true b 13 e13)) IsReturn
            | inr e13 ↦
                elim (cases_Bool (nat_eq b 226)) [
                  | inl e226 ↦ subst EndByte (sym (eqb-true b 226 e226)) IsFirst
                  | inr e226 ↦
                      elim (cases_Bool (nat_eq b 128)) [
                        | inl e128 ↦ subst EndByte (sym (eqb-true b 128 e128)) IsSecond
                        | inr e128 ↦
                            elim (cases_Bool (nat_eq b 168)) [
                              | inl e168 ↦ subst EndByte (sym (eqb-true b 168 e168)) IsLast
                              | inr e168 ↦
                                  elim (cases_Bool (nat_eq b 169)) [
                                    | inl e169 ↦ subst EndByte (sym (eqb-true b 169 e169)) IsOtherLast
                                    | inr e169 ↦
                                        IsNone b (record {
                                          not10 = e10;
                                          is10 = swapped b 10 e10;
                                          not13 = e13;
                                          is13 = swapped b 13 e13;
                                          not226 = e226;
                                          is226 = swapped b 226 e226;
                                          not128 = e128;
                                          is128 = swapped b 128 e128;
                                          not168 = e168;
                                          is168 = swapped b 168 e168;
                                          not169 = e169;
                                          is169 = swapped b 169 e169;
                                        })
                                  ]
                            ]
                      ]
                ]
          ]
    ]

-- the bytes that may begin U+2028 and U+2029
data Begun : Type 0 where
  None0 : Begun
  One : Begun
  Two : Begun

abbrev begun_bytes : Begun → List ℕ
begun_bytes None0 = []
begun_bytes One = 0xE2 ∷ []
begun_bytes Two = 0xE2 ∷ 0x80 ∷ []

abbrev Finds : Begun → List ℕ → Type 0
Finds g bs = has_line (lines_over (NoLineYet (begun_bytes g)) bs) ≡ has_line_end (begun_bytes g ++ bs)

line-found : (g : Begun) (bs : List ℕ) → ((h : Begun) → Finds h bs) → (b : ℕ) → EndByte b → Finds g (b ∷ bs)
unfolding lib.Utf8.encode
line-found None0 bs h b IsFeed = line-stays bs
line-found None0 bs h b IsReturn = line-stays bs
line-found None0 bs h b IsFirst = h One
line-found None0 bs h b IsSecond = h None0
line-found None0 bs h b IsLast = h None0
line-found None0 bs h b IsOtherLast = h None0
line-found None0 bs h b (IsNone c n) = rw (n.not10, n.is10, n.not13, n.is13, n.not226, n.is226) (h None0)
line-found One bs h b IsFeed = line-stays bs
line-found One bs h b IsReturn = line-stays bs
line-found One bs h b IsFirst = h One
line-found One bs h b IsSecond = h Two
line-found One bs h b IsLast = h None0
line-found One bs h b IsOtherLast = h None0
line-found One bs h b (IsNone c n) = rw (n.not10, n.is10, n.not13, n.is13, n.not226, n.is226, n.not128, n.is128) (h None0)
line-found Two bs h b IsFeed = line-stays bs
line-found Two bs h b IsReturn = line-stays bs
line-found Two bs h b IsFirst = h One
line-found Two bs h b IsSecond = h None0
line-found Two bs h b IsLast = line-stays bs
line-found Two bs h b IsOtherLast = line-stays bs
line-found Two bs h b (IsNone c n) = rw (n.not10, n.is10, n.not13, n.is13, n.not226, n.is226, n.not168, n.is168, n.not169, n.is169) (h None0)

finds : (g : Begun) (bs : List ℕ) → Finds g bs
unfolding lib.Utf8.encode
finds None0 [] = refl
finds One [] = refl
finds Two [] = refl
finds g (b ∷ bs) = line-found g bs (λ h. finds h bs) b (end-byte b)

blank-by : (lines : PartLines) → blank_of lines ≡ (if has_line lines then 10 ∷ [] else 32 ∷ [])
blank-by HasLine = refl
blank-by (NoLineYet begun) = refl

-- So what is written of a part is what is said of its bytes.
pub part-blank : (part : List ℕ) → blank_of (lines_over (NoLineYet []) part) ≡ blank_for part
part-blank part = blank-by (lines_over (NoLineYet []) part) ∙ ap (λ (x : Bool). if x then 10 ∷ [] else 32 ∷ []) (finds None0 part)

-- And while the path is in the comment the trail goes over the bytes of the part so.
abbrev pub StaysInBlock : ScriptState → List ℕ → Type 0
StaysInBlock v [] = ⊤
StaysInBlock v (b ∷ bs) = (is_block (feed_script v b).at ≡ true) × StaysInBlock (feed_script v b) bs

block-lines : (a : At) (lines : PartLines) (b : ℕ) → is_block a ≡ true → lines_after a lines b ≡ lines_with lines b
block-lines (BlockComment s star) lines b e = refl
block-lines a lines b e = absurd (true≢false (sym e))

over-trail : (bs : List ℕ) (v : ScriptState) (t : List ScriptEvent) → StaysInBlock v bs → (read_on bs (script_reading v t)).state.trail.lines ≡ lines_over v.trail.lines bs
over-trail [] v t h = refl
over-trail (b ∷ bs) v t h =
    over-trail bs (feed_script v b) (script_emits v b t) h.1
    ∙ ap (λ (lines : PartLines). lines_over lines bs) (block-lines (feed_script v b).at v.trail.lines b h.0)

pub part-written : (v : ScriptState) (part : List ℕ) → v.trail.lines ≡ NoLineYet [] → StaysInBlock v part → blank_of (script_state_after part v).trail.lines ≡ blank_for part
part-written v part e h = ap blank_of (over-trail part v [] h ∙ ap (λ (lines : PartLines). lines_over lines part) e) ∙ part-blank part
