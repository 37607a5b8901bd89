-- What has one proof at most, so that it may be kept with a value.
use denote.Struct.Props as logic
use Rattle.std.specs.Prelude.{ℕ}
use Rattle.lazy_store.specs.declared.lazy.Lazy.{Lazy}
use Rattle.kept_book.specs.Ids.{AreBelow, AreLive}

pub are_below-prop : (n : ℕ) (store : Lazy) → IsProp (AreBelow n store)
are_below-prop n store = Prim.hlevel logic.props

pub are_live-prop : (store : Lazy) → IsProp (AreLive store)
are_live-prop store = Prim.hlevel logic.props
