-- What a question for links is by what the engine answered and what was written.
use Rattle.std.proofs.Common.{◌≡◌, ◌∙◌, ◌+◌, sym, ap, subst, refl, ℕ, suc, Bool, ◌&&◌, List, [], ◌∷◌, length}
use Rattle.std.specs.Prelude.{Result, Ok, Err}
use Rattle.formula_tree.specs.declared.link.Link.{Link}
use Rattle.book_model.specs.Operation.{Operation}
use Rattle.book_model.specs.Session.{next}
use Rattle.book_model.specs.Workbook.{State}
use Rattle.book_engine.specs.Engine.{Does}
use Rattle.book_engine.specs.Stop.{Stop}
use Rattle.book_engine.specs.Stop.TheVariants as stop
use Rattle.rule_table.specs.Rules.{rules_of}
use Rattle.engine_face.specs.Links.{EndCounts, EndLinks, LinksTold, ListFits, link_counts, link_rows, link_word, link_words}
use Rattle.engine_face.specs.Session.{AsksFor, Stands, Told, Wrote}
use Rattle.engine_face.specs.Shown.{filled, fits}
use Rattle.engine_face.specs.declared.links.LinkCounts.{LinkCounts}
use Rattle.engine_face.specs.declared.links.LinkRow.{LinkRow}
use Rattle.engine_face.specs.declared.session.Session.{Session}
use Rattle.engine_face.specs.declared.status.Status.{Status}
use Rattle.engine_face.proofs.Ends.{links_ends, list_ends}

-- the rooms have a place for both
abbrev pub have_place : List LinkRow → List ℕ → List Link → Bool
have_place room bytes links = fits (link_rows 0 links) room && fits (link_words links) bytes

-- what the engine answered is what the session of the plain machine has there, and a question leaves the session
module _ {X : Type 0} (op : Operation) (items : X → List Link) (answer : State → List Link) (still : (d : State) (P : State → Type 0) → P (next op d) → P d) (old new : Session) (room room_new : List LinkRow) (bytes bytes_new : List ℕ) where
  abbrev Answers : Result X Stop → Type 0
  Answers end = Does rules_of op (λ d x. items x ≡ answer d) old.engine new.engine end

  abbrev Written : Result X Stop → Status → Type 0
  Written end status = EndLinks items end room room_new bytes bytes_new status

  pub asked_links : (end : Result X Stop) (status : Status) → Answers end → Written end status → AsksFor op (λ d. have_place room bytes (answer d)) old new status
  asked_links (Ok x) status h f = links_ends (AsksFor op (λ d. have_place room bytes (answer d)) old new) (items x) room room_new bytes bytes_new (λ g d stands. let a = h d stands in (a.0, ap (have_place room bytes) (sym a.1) ∙ g.0, a.2)) (λ g d stands. let a = h d stands in (a.0, ap (have_place room bytes) (sym a.1) ∙ g.0, a.2)) (λ g d stands. still d (Stands new) (h d stands).2) status f
  asked_links (Err (stop.Refused r)) status h f = let P : Status → Type 0 = AsksFor op (λ d. have_place room bytes (answer d)) old new in subst P (sym f.0) h
  asked_links (Err stop.NoMemory) status h f = let P : Status → Type 0 = AsksFor op (λ d. have_place room bytes (answer d)) old new in subst P (sym f.0) h

  pub wrote_rows : (end : Result X Stop) (status : Status) → Answers end → Written end status → Wrote (λ d. link_rows 0 (answer d)) room room_new old status
  wrote_rows (Ok x) status h f = links_ends (Wrote (λ d. link_rows 0 (answer d)) room room_new old) (items x) room room_new bytes bytes_new (λ g d stands. g.1 ∙ ap (λ (links : List Link). filled (link_rows 0 links) room) (h d stands).1) (λ g. g.1) (λ g. g.0) status f
  wrote_rows (Err (stop.Refused r)) status h f = let P : Status → Type 0 = Wrote (λ d. link_rows 0 (answer d)) room room_new old in subst P (sym f.0) f.1
  wrote_rows (Err stop.NoMemory) status h f = let P : Status → Type 0 = Wrote (λ d. link_rows 0 (answer d)) room room_new old in subst P (sym f.0) f.1

  pub wrote_words : (end : Result X Stop) (status : Status) → Answers end → Written end status → Wrote (λ d. link_words (answer d)) bytes bytes_new old status
  wrote_words (Ok x) status h f = links_ends (Wrote (λ d. link_words (answer d)) bytes bytes_new old) (items x) room room_new bytes bytes_new (λ g d stands. g.2 ∙ ap (λ (links : List Link). filled (link_words links) bytes) (h d stands).1) (λ g. g.2) (λ g. g.1) status f
  wrote_words (Err (stop.Refused r)) status h f = let P : Status → Type 0 = Wrote (λ d. link_words (answer d)) bytes bytes_new old in subst P (sym f.0) f.2
  wrote_words (Err stop.NoMemory) status h f = let P : Status → Type 0 = Wrote (λ d. link_words (answer d)) bytes bytes_new old in subst P (sym f.0) f.2

  pub told_counts : (had now : LinkCounts) (end : Result X Stop) (status : Status) → Answers end → Written end status → EndCounts items end had now status → Told (λ d. link_counts (answer d)) had now old status
  told_counts had now (Ok x) status h f t =
      links_ends (λ s. LinksTold (items x) had now s → Told (λ d. link_counts (answer d)) had now old s) (items x) room room_new bytes bytes_new
      (λ g u d stands. u ∙ ap link_counts (h d stands).1) (λ g u d stands. u ∙ ap link_counts (h d stands).1) (λ g u. u) status f t
  told_counts had now (Err (stop.Refused r)) status h f t = let P : Status → Type 0 = Told (λ d. link_counts (answer d)) had now old in subst P (sym f.0) t
  told_counts had now (Err stop.NoMemory) status h f t = let P : Status → Type 0 = Told (λ d. link_counts (answer d)) had now old in subst P (sym f.0) t

rows-length : (start : ℕ) (links : List Link) → length (link_rows start links) ≡ length links
rows-length start [] = refl
rows-length start (link ∷ links) = ap suc (rows-length (start + length (link_word link)) links)

-- of links that were listed their number and the bytes of their words are told, written or not
module _ (links : List Link) (rows room room_new : List LinkRow) (words bytes bytes_new : List ℕ) (had now : LinkCounts) (listed_rows : rows ≡ link_rows 0 links) (listed_words : words ≡ link_words links) (some : now.links ≡ length rows) (long : now.words ≡ length words) where
  counted : now ≡ link_counts links
  counted =
      let p = some ∙ ap (λ (r : List LinkRow). length r) listed_rows ∙ rows-length 0 links in
      let q = long ∙ ap (λ (w : List ℕ). length w) listed_words in
      λ i. record { links = p i; words = q i }

  pub told_written : (status : Status) → ListFits rows words room room_new bytes bytes_new status → LinksTold links had now status
  told_written status f = list_ends (LinksTold links had now) rows room room_new words bytes bytes_new (λ g. counted) (λ g. counted) status f
