-- `tree::runs::copy` meets its contract. Assumes nothing.
use Prim.Native.Nat.{ℕ, ◌+◌, ◌<◌}
use mathlib.Core.Path.{◌≡◌, refl, sym, ap, ◌∙◌}
use mathlib.Core.List.{List}
use native.Mathlib.Numerals.{add-one}
use native.Mathlib.Omega.{arith}
use lib.IntN.{ℤ, pos}
use lib.ListN.{length, get_or, set, drop, length-set, length-drop}
use lib.Seq.{paste, paste-zero, paste-suc, get_or-drop}
use mir.Facts.{to_z-of_z}
use mir.Syntax.{w32}
use borrow.Author.Rules.{rules}
use Rattle.tree.proofs.runs.copy.Goals as goal

-- one coordinate more
one_more_lem : (l : List ℤ) (at : ℕ) (points : List ℤ) (from i : ℕ) (now : List ℤ) (x : ℤ) → now ≡ paste l at (drop from points) i
    → x ≡ get_or points (from + i) (pos 0) → at + i < length l → from + i < length points → set now (at + i) x ≡ paste l at (drop from points) (i + 1)
one_more_lem l at points from i now x e q h k =
    let s : List ℤ = drop from points in
    let hs : i < length s = omega (arith, length-drop from points) in
    ap (λ (n : List ℤ). set n (at + i) x) e
    ∙ ap (λ (y : ℤ). set (paste l at s i) (at + i) y) (q ∙ sym (get_or-drop from points i (pos 0)))
    ∙ paste-suc l at s i (pos 0) h hs
    ∙ ap (λ (n : ℕ). paste l at s n) (sym (add-one i))

pub loop-i-init : goal.loop-i-init
loop-i-init c = let a = c.args in (refl, paste-zero a.coordinates.now a.at (drop a.from a.points.now))

pub loop-i-preserved : goal.loop-i-preserved
loop-i-preserved c =
    let v = c.loop-i.invariant in
    let a = c.args in
    (simp length-set v.0, one_more_lem a.coordinates.now a.at a.points.now a.from c.loop-i.i _ _ v.1 (to_z-of_z {w = w32} (search rules)) (omega arith) (omega arith))

pub returns : goal.returns
returns c = let l = c.loop-i in let q : l.i ≡ c.args.n = omega arith in rw q at l.invariant.1
