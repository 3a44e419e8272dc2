-- A call that gives 0 gave its rows. What the promises settle and what a refusal keeps stand in paper (`settled`, `kept`). Assumes nothing.
use Prim.Native.Nat.{ℕ, ◌*◌}
use mathlib.Core.Path.{◌≡◌, refl, sym, ap, ◌∙◌}
use mathlib.Core.List.{List}
use lib.Dec.{leb, eqb}
use lib.IntN.{ℤ}
use lib.ListN.{length}
use Rattle.std.specs.Prelude.{Option}
use Rattle.paper.specs.declared.orders.Item.{Item}
use Rattle.paper.specs.Outcomes.{Outcome, refused, gives, onto, number, leaves, Promise}
use Rattle.paper.specs.Tree.{Store, fits, sound}
use Rattle.paper.proofs.Outcomes.{must_go, number_0}
use Rattle.nearby_many.specs.Rows.{each, instead, put_found}
use Rattle.nearby_many.specs.Many.{firsts_call}
use Rattle.nearby_many.specs.Pages.{PageRooms, on_pages, pages_refusal, pages_each}
use Rattle.nearby_many.proofs.PagesOfMany.{then_pages, pages_gives}

-- what a call gave stands in its rooms
stands : {M : Type 0} (o : Outcome M) (before after x : M) (r : ℕ) → Promise number instead o before r after → o ≡ gives x → o ≡ gives after
stands o before after x r p e = e ∙ ap gives (sym (p.memory ∙ ap (λ u. leaves instead u before) e))

pub firsts_given : (s : Store) (probes n : ℕ) (answer : ℕ → Option Item) (out after : List ℕ) (r : ℕ)
    → Promise number instead (firsts_call s probes n answer out) out r after → r ≡ 0 → firsts_call s probes n answer out ≡ gives after
unfolding firsts_call
firsts_given s probes n answer out after r p none =
    let p₁ = number_0 (fits s) 0 _ (sym p.result ∙ none) in
    let p₂ = number_0 (sound s) 1 _ p₁.1 in
    let p₅ = number_0 (eqb probes (s.table.d * n)) 4 _ p₂.1 in
    let p₁₂ = number_0 (leb (n * 4) (length out)) 11 (gives (each (put_found answer) n out)) p₅.1 in
    stands (firsts_call s probes n answer out) out after (each (put_found answer) n out) r p
    (must_go (fits s) 1 _ p₁.0 ∙ must_go (sound s) 2 _ p₂.0 ∙ must_go (eqb probes (s.table.d * n)) 5 _ p₅.0
    ∙ must_go (leb (n * 4) (length out)) 12 (gives (each (put_found answer) n out)) p₁₂.0)

number_onto : {A B : Type 0} (y : Outcome B) (x : A) → number (onto y (λ u. gives x)) ≡ number y
number_onto (refused n) x = refl
number_onto (gives b) x = refl

module _ (s : Store) (probes : List ℤ) (reaches places : List ℕ) (size : ℕ) (before after : PageRooms) (r : ℕ)
    (p : Promise number instead (pages_each s probes reaches places size before) before r after) (none : r ≡ 0) where
  shown : 0 ≡ pages_refusal s (length probes) (length reaches) (length places) size (length before.outcomes) (length before.items)
  unfolding pages_each pages_refusal
  shown =
      sym none ∙ p.result
      ∙ ap number (then_pages s (length probes) (length reaches) (length places) size (length before.outcomes) (length before.items) (gives _))
      ∙ number_onto (on_pages s (length probes) (length reaches) (length places) size (length before.outcomes) (length before.items) (gives (length reaches))) _

  pub pages_given : pages_each s probes reaches places size before ≡ gives after
  pages_given = stands _ before after _ r p (pages_gives s probes reaches places size before shown)
