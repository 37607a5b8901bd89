-- How a call ends that writes into rooms: done, with no place there, and with links also for want of memory. What is shown of these
-- ends is so of the call's. Serves the questions of a session.
use Rattle.std.proofs.Common.{ℕ, List}
use Rattle.engine_face.specs.Links.{LinksFit, ListFits}
use Rattle.engine_face.specs.Shown.{Fits}
use Rattle.formula_tree.specs.declared.link.Link.{Link}
use Rattle.engine_face.specs.declared.links.LinkRow.{LinkRow}
use Rattle.engine_face.specs.declared.status.Status.{Status}
use Rattle.engine_face.specs.declared.status.Status.TheVariants.{Done, Refused, NoMemory, NoRoom, NotOpen, NotUtf8, BadLimit, BadTable, StillOpen, BadNumber, BadCells, BadChange}

module _ {X : Type 0} (P : Status → Type 0) (items room room_new : List X) (done : Fits items room room_new Done → P Done) (none : Fits items room room_new NoRoom → P NoRoom) where
  pub fits_ends : (status : Status) → Fits items room room_new status → P status
  fits_ends Done f = done f
  fits_ends NoRoom f = none f
  fits_ends (Refused r) f = absurd f
  fits_ends NoMemory f = absurd f
  fits_ends NotOpen f = absurd f
  fits_ends NotUtf8 f = absurd f
  fits_ends BadLimit f = absurd f
  fits_ends BadTable f = absurd f
  fits_ends StillOpen f = absurd f
  fits_ends BadNumber f = absurd f
  fits_ends BadCells f = absurd f
  fits_ends BadChange f = absurd f

module _ {X : Type 0} (P : Status → Type 0) (rows room room_new : List X) (words bytes bytes_new : List ℕ) (done : ListFits rows words room room_new bytes bytes_new Done → P Done) (none : ListFits rows words room room_new bytes bytes_new NoRoom → P NoRoom) where
  pub list_ends : (status : Status) → ListFits rows words room room_new bytes bytes_new status → P status
  list_ends Done f = done f
  list_ends NoRoom f = none f
  list_ends (Refused r) f = absurd f
  list_ends NoMemory f = absurd f
  list_ends NotOpen f = absurd f
  list_ends NotUtf8 f = absurd f
  list_ends BadLimit f = absurd f
  list_ends BadTable f = absurd f
  list_ends StillOpen f = absurd f
  list_ends BadNumber f = absurd f
  list_ends BadCells f = absurd f
  list_ends BadChange f = absurd f

module _ (P : Status → Type 0) (links : List Link) (room room_new : List LinkRow) (bytes bytes_new : List ℕ) (done : LinksFit links room room_new bytes bytes_new Done → P Done) (none : LinksFit links room room_new bytes bytes_new NoRoom → P NoRoom) (lacking : LinksFit links room room_new bytes bytes_new NoMemory → P NoMemory) where
  pub links_ends : (status : Status) → LinksFit links room room_new bytes bytes_new status → P status
  links_ends Done f = done f
  links_ends NoRoom f = none f
  links_ends NoMemory f = lacking f
  links_ends (Refused r) f = absurd f
  links_ends NotOpen f = absurd f
  links_ends NotUtf8 f = absurd f
  links_ends BadLimit f = absurd f
  links_ends BadTable f = absurd f
  links_ends StillOpen f = absurd f
  links_ends BadNumber f = absurd f
  links_ends BadCells f = absurd f
  links_ends BadChange f = absurd f
