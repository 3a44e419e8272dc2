-- Reading a line as an ask or an answer: what a reader gives is what the two ends are told. Assumes nothing.
use mathlib.Core.Path.{◌≡◌, refl}
use mathlib.Core.Bool.{Bool, true, false}
use mathlib.Core.List.{List}
use Prim.Native.Nat.{ℕ}
use Rattle.paper.specs.Outcomes.{gives, must, onto}
use Rattle.paper.specs.Frames.{frame_of, is_line}
use Rattle.paper.specs.Lines.{reading, is_ask, ask_at, read_as_ask, is_answer, answer_at, read_as_answer}
use Rattle.paper.specs.Codec.{ask_meant, answer_meant, read_ask, read_answer}

-- two tests, and what the value behind them means
meant : {A B : Type 0} (a b : Bool) (x : A) (f : A → B)
    → must a 9 (must b 10 (gives (f x))) ≡ onto (must a 9 (must b 10 (gives x))) (λ y. gives (f y))
meant true true x f = refl
meant true false x f = refl
meant false b x f = refl

pub ask_as_read : (line : List ℕ) → read_ask line ≡ onto (read_as_ask line) (λ a. gives (ask_meant a))
unfolding read_ask read_as_ask reading
ask_as_read line = meant (is_line line) (is_ask (frame_of line)) (ask_at (frame_of line)) ask_meant

pub answer_as_read : (line : List ℕ) → read_answer line ≡ onto (read_as_answer line) (λ y. gives (answer_meant y))
unfolding read_answer read_as_answer reading
answer_as_read line = meant (is_line line) (is_answer (frame_of line)) (answer_at (frame_of line)) answer_meant
