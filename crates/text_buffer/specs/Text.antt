-- What a text in a lent buffer is after something is written. A text is a list of bytes.
use Rattle.std.specs.Prelude.{ℕ, suc, ◌+◌, Bool, cond, List, [], ◌∷◌, ◌++◌, ltb, length, take, drop, decimal}
use Rattle.std.specs.Borrow.{MutBor}
use Rattle.text_buffer.specs.declared.Text.{Text}

-- the lent buffer, and the place in it: past its end once something did not fit
abbrev pub Written : Type 0
Written = Text

-- what is written
abbrev pub text : Written → List ℕ
text w = take w.at w.out.now

-- the bytes of the buffer after it
abbrev pub rest : Written → List ℕ
rest w = drop w.at w.out.now

-- whether something did not fit
abbrev pub full : Written → Bool
full w = ltb (length w.out.now) w.at

-- nothing is written in a buffer
abbrev pub empty : MutBor (List ℕ) → Written
empty out = record { out = out; at = 0 }

-- a text after what is written, as much of it as the buffer has bytes left. Once something did not fit, nothing more is written
unfoldable pub wrote : Written → List ℕ → Written
wrote w t =
    cond (full w) w
    (record {
      out = record w.out { now = text w ++ take (length (rest w)) t ++ drop (length t) (rest w) };
      at = cond (ltb (length (rest w)) (length t)) (suc (length w.out.now)) (w.at + length t);
    })

-- texts one after the other
unfoldable pub joined : List (List ℕ) → List ℕ
joined [] = []
joined (t ∷ ts) = t ++ joined ts

-- a whole number below 2^64 in decimal digits, as few as hold it
abbrev pub whole_text : ℕ → List ℕ
whole_text = decimal
