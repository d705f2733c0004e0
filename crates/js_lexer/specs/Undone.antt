-- The escapes of a string or a regular expression undone (ECMA-262, sections 12.9.4.2 and 22.2.1): which bytes it stands for. It is so
-- for all that the sanitizers write. Some other escapes are undone here otherwise than in JavaScript, and no sanitizer writes any of these:
-- - octal escapes but `\0` stand for their digits;
-- - the two halves of a surrogate pair stand for a character each;
-- - a backslash before U+2028 or U+2029 leaves that character, where JavaScript goes on with the line;
-- - in a regular expression `\b`, `\d`, `\cA` and the like stand for a control or for their letters, where they are its syntax.
-- An escape that is not finished at the end stands for nothing.
use Rattle.std.specs.Prelude.{ℕ, zero, suc, ◌+◌, ◌*◌, ◌-◌, ◌==◌, nat_le, encode_utf8, Bool, true, List, [], ◌∷◌, ◌++◌, if◌then◌else◌}

-- outside an escape; behind its backslash; within hexadecimal digits, with how many are left after the next one and what they are so far; behind
-- `\u`; within `\u{ }`; behind a backslash and a carriage return
pub data ScriptUndoing : Type 0 where
  Outside : ScriptUndoing
  Behind : ScriptUndoing
  Digits : ℕ → ℕ → ScriptUndoing
  BehindU : ScriptUndoing
  Braced : ℕ → ScriptUndoing
  BehindReturn : ScriptUndoing

abbrev pub hexadecimal : ℕ → ℕ
hexadecimal b = if nat_le 97 b then b - 87 else (if nat_le 65 b then b - 55 else b - 48)

-- the character of a letter behind a backslash: NUL, backspace, tab, line feed, vertical tab, form feed, carriage return, or itself
abbrev pub single : ℕ → ℕ
single b =
    if b == 48 then 0 else (if b == 98 then 8 else (if b == 116 then 9 else (if b == 110 then 10 else (if b == 118 then 11 else (if b == 102 then 12
    else (if b == 114 then 13 else b))))))

abbrev pub undone_after_backslash : ℕ → ScriptUndoing
undone_after_backslash b =
    if b == 120 then Digits 1 0
    else (if b == 117 then BehindU
    else (if b == 13 then BehindReturn
    else Outside))

-- an `x`, a `u` and the end of a line stand for nothing themselves
abbrev pub is_silent : ℕ → Bool
is_silent b = if b == 120 then true else (if b == 117 then true else (if b == 10 then true else b == 13))

abbrev pub after_digits : ℕ → ℕ → ScriptUndoing
after_digits zero v = Outside
after_digits (suc n) v = Digits n v

abbrev pub undone_digits : ℕ → ℕ → List ℕ
undone_digits zero v = encode_utf8 v
undone_digits (suc n) v = []

abbrev pub undoing_after : ScriptUndoing → ℕ → ScriptUndoing
undoing_after Outside b = if b == 92 then Behind else Outside
undoing_after Behind b = undone_after_backslash b
undoing_after (Digits n v) b = after_digits n (v * 16 + hexadecimal b)
undoing_after BehindU b = if b == 123 then Braced 0 else Digits 2 (hexadecimal b)
undoing_after (Braced v) b = if b == 125 then Outside else Braced (v * 16 + hexadecimal b)
undoing_after BehindReturn b = if b == 92 then Behind else Outside

abbrev pub script_undone_byte : ScriptUndoing → ℕ → List ℕ
script_undone_byte Outside b = if b == 92 then [] else b ∷ []
script_undone_byte Behind b = if is_silent b then [] else single b ∷ []
script_undone_byte (Digits n v) b = undone_digits n (v * 16 + hexadecimal b)
script_undone_byte BehindU b = []
script_undone_byte (Braced v) b = if b == 125 then encode_utf8 v else []
script_undone_byte BehindReturn b = if b == 92 then [] else (if b == 10 then [] else b ∷ [])

abbrev pub undone_from : ScriptUndoing → List ℕ → List ℕ
undone_from u [] = []
undone_from u (b ∷ bs) = script_undone_byte u b ++ undone_from (undoing_after u b) bs

abbrev pub script_escapes_undone : List ℕ → List ℕ
script_escapes_undone bytes = undone_from Outside bytes
