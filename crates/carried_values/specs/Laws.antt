-- What holds of nodes that go over from one network to another. Source: this project's own.
use Rattle.std.specs.Prelude.{◌≡◌, Bool, true, Option, Some}
use Rattle.value_network.specs.Network.{IsNetwork, Network, cyclic, value}
use Rattle.carried_values.specs.Over.{GoesOver, values_carried}

-- the nodes that pass a test go over: they show what is carried over to them
abbrev pub ValuesGoOver : (K L V : Type 0) → Type 0
ValuesGoOver K L V =
    (one : Network K V) (two : Network L V) (back : L → Option K) (given : L → V) (inside : L → Bool) →
    IsNetwork one → IsNetwork two → GoesOver one two back given (λ a. inside a ≡ true) → (a : L) → inside a ≡ true →
    value two (cyclic two) a ≡ values_carried one back given a

-- and those that came from a node are on a cycle exactly where it was
abbrev pub CyclesGoOver : (K L V : Type 0) → Type 0
CyclesGoOver K L V =
    (one : Network K V) (two : Network L V) (back : L → Option K) (given : L → V) (inside : L → Bool) →
    IsNetwork one → IsNetwork two → GoesOver one two back given (λ a. inside a ≡ true) → (a : L) (c : K) → inside a ≡ true → back a ≡ Some c →
    cyclic two a ≡ cyclic one c
