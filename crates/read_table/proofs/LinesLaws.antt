-- A line takes the reader on, so that more turns than there are bytes left change nothing. Assumes nothing.
use Rattle.std.proofs.Common.{◌≡◌, ℕ, zero, suc, ◌+◌, ◌<◌, ◌≤◌, cond, nat_lt, List, length, Option, Some, None, Result, Ok, Err, refl, sym, ap, arith, lt-ltb, le-ltb}
use Rattle.read_table.specs.Classes.{scan_of}
use Rattle.read_table.specs.Table.{TableState, WithFault, entered_line, next_line, unless_fault, lines_of}
use Rattle.read_table.specs.declared.fault.TableFault.{TableFault}
use Rattle.read_table.specs.declared.row.Reading.{Reading}

stepped_at : (text : List ℕ) (s : TableState) (r : Result (Option Reading) TableFault) → (entered_line text s r).1.at ≡ s.at
stepped_at text s (Err e) = refl
stepped_at text s (Ok None) = refl
stepped_at text s (Ok (Some reading)) = refl

further : (text : List ℕ) (s : TableState) → s.at < (next_line text s).1.at
unfolding next_line scan_of
further text s = let at = stepped_at text in omega arith

pub lines_end : (n : ℕ) (text : List ℕ) (s : TableState) → length text ≤ s.at → lines_of n text s ≡ (Ok tt, s)
unfolding lines_of
lines_end zero text s h = refl
lines_end (suc n) text s h = rw (le-ltb s.at (length text) h)

then_same : (f g : TableState → WithFault TableState) (r : WithFault TableState) → f r.1 ≡ g r.1 → unless_fault f r ≡ unless_fault g r
then_same f g (Err e, t) h = refl
then_same f g (Ok u, t) h = h

enough : (n m : ℕ) (text : List ℕ) (s : TableState) → length text ≤ s.at + n → length text ≤ s.at + m → lines_of n text s ≡ lines_of m text s
unfolding lines_of
enough zero m text s h k = sym (lines_end m text s (omega arith))
enough (suc n) zero text s h k = lines_end (suc n) text s (omega arith)
enough (suc n) (suc m) text s h k =
    let next = next_line text s in
    let on : s.at < next.1.at = further text s in
    ap (λ r. cond (nat_lt s.at (length text)) r (Ok tt, s)) (then_same (lines_of n text) (lines_of m text) next (enough n m text next.1 (omega arith) (omega arith)))

pub turn : (text : List ℕ) (s : TableState) → s.at < length text → lines_of (length text) text s ≡ unless_fault (lines_of (length text) text) (next_line text s)
unfolding lines_of
turn text s h = go (length text) refl
  where
    go : (n : ℕ) → length text ≡ n → lines_of n text s ≡ unless_fault (lines_of (length text) text) (next_line text s)
    go zero e = absurd (omega arith)
    go (suc n) e =
        let next = next_line text s in
        let on : s.at < next.1.at = further text s in
        rw (lt-ltb s.at (length text) h) (then_same (lines_of n text) (lines_of (length text) text) next (enough n (length text) text next.1 (omega arith) (omega arith)))
