-- Entries that were done and undone, as callers see them. Source: this project's own.
use Rattle.std.specs.Prelude.{ℕ, ◌+◌, ◌-◌, ◌≤◌, List, [], ◌∷◌, ◌++◌, length, take, drop, slice_get, Option, refl}
use Rattle.std.specs.Coded.{Coded, code_by, coded×, coded_list, coded_ℕ}

-- the entries that are done, the newest last, and those that are undone, the next one to be done again last. `limit` is
-- how many there may be in both together
pub record History (E : Type 0) : Type 0 where
  pub done : List E
  pub undone : List E
  pub limit : ℕ

module _ {E : Type 0} where
  -- a history is stored as the tuple of its fields
  abbrev pub history_code : Coded E → Coded (History E)
  history_code c =
      code_by (List E × (List E × ℕ)) (coded× (coded_list c) (coded× (coded_list c) coded_ℕ))
      (λ h. (h.done, (h.undone, h.limit)))
      (λ t. record { done = t.0; undone = t.1.0; limit = t.1.1 }) (λ _. refl)

  -- both lists together are no longer than the limit
  abbrev pub IsWithinLimit : History E → Type 0
  IsWithinLimit h = length h.done + length h.undone ≤ h.limit

  -- the last n of a list, or the whole list where it has no more
  abbrev pub last_of : ℕ → List E → List E
  last_of n xs = drop (length xs - n) xs

  -- what stands in front of the last n
  abbrev pub all_but_last : ℕ → List E → List E
  all_but_last n xs = take (length xs - n) xs

  -- the last one, where there is one
  abbrev pub last_one : List E → Option E
  last_one xs = slice_get xs (length xs - 1)

  -- an entry is added: as many of the newest as the limit allows stay done, and none is undone
  abbrev pub pushed : E → History E → History E
  pushed e h = record h { done = last_of h.limit (h.done ++ e ∷ []); undone = [] }

  -- none is undone any more
  abbrev pub without_undone : History E → History E
  without_undone h = record h { undone = [] }

  -- no entry is left
  abbrev pub without_entries : History E → History E
  without_entries h = record h { done = []; undone = [] }

  -- the newest entry is undone
  abbrev pub stepped_back : History E → History E
  stepped_back h = record h { done = all_but_last 1 h.done; undone = h.undone ++ last_of 1 h.done }

  -- the next undone entry is done again
  abbrev pub stepped_forward : History E → History E
  stepped_forward h = record h { done = h.done ++ last_of 1 h.undone; undone = all_but_last 1 h.undone }

  -- the next undone entry is gone
  abbrev pub without_next : History E → History E
  without_next h = record h { undone = all_but_last 1 h.undone }

  -- the newest entry that is done is gone
  abbrev pub without_newest : History E → History E
  without_newest h = record h { done = all_but_last 1 h.done }

  -- one entry more is done, or undone; the others stay
  abbrev pub with_done : E → History E → History E
  with_done e h = record h { done = h.done ++ e ∷ [] }

  abbrev pub with_undone : E → History E → History E
  with_undone e h = record h { undone = h.undone ++ e ∷ [] }
