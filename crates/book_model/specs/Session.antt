-- What operations do to a session. Source: this project's own.
use Rattle.std.specs.Prelude.{◌+◌, ◌==◌, if◌then◌else◌, true, false, List, [], ◌∷◌, take, Option, Some, None}
use Rattle.cell_addr.specs.Place.{covers}
use Rattle.book_model.specs.Clipboard.{copy_of, moving, without_cut}
use Rattle.book_model.specs.Workbook.{Workbook, Batch, State}
use Rattle.book_model.specs.Operation.{Operation, set, clear, structural, add_sheet, rename_sheet, clear_sheet, add_name, change_name, remove_name, copy, cut, paste, begin, commit, suspend, resume, undo, redo, value, formula, content, precedents, dependents, name_value, try_formula, write_all}
use Rattle.book_model.specs.Changes.{with_content, with_contents, emptied, shifted, with_sheet, renamed, named, unnamed, with_clip}
use Rattle.book_model.specs.Refusals.{cause}
use Rattle.book_model.specs.declared.refusal.Refusal.{Refusal}

-- the workbook from before a step joins those of the undo list; of more than the limit the oldest goes
abbrev pub kept : State → Workbook → List Workbook
kept d before = take d.limit (before ∷ d.undo)

-- a change gives the session another workbook, after which nothing can be redone and a pending cut has ended; it is a step
-- by itself, or part of the open batch's
abbrev pub changed_in : Option Batch → Workbook → State → State
changed_in None book d = record d { book = book; undo = kept d d.book; redo = []; clip = without_cut d.clip }
changed_in (Some batch) book d = record d { book = book; batch = Some (record batch { changed = true }); redo = []; clip = without_cut d.clip }

abbrev pub changed : Workbook → State → State
changed book d = changed_in d.batch book d

-- a batch begins with the workbook as it is
abbrev pub opened : State → State
opened d = record d { batch = Some (record { start = d.book; changed = false }) }

-- the changes of a batch are one step; a batch without one is none
abbrev pub closed : Option Batch → State → State
closed None d = d
closed (Some batch) d = record d { batch = None; undo = if batch.changed then kept d batch.start else d.undo }

-- the next workbook of the undo list, and the present one joins the redo list; and the opposite. Both end a pending cut
abbrev pub undone : List Workbook → State → State
undone [] d = d
undone (b ∷ bs) d = record d { book = b; undo = bs; redo = d.book ∷ d.redo; clip = without_cut d.clip }

abbrev pub redone : List Workbook → State → State
redone [] d = d
redone (b ∷ bs) d = record d { book = b; undo = d.book ∷ d.undo; redo = bs; clip = without_cut d.clip }

-- the session after an operation that is accepted; a read changes nothing
abbrev pub done : Operation → State → State
done (set at text) d = changed (with_content at text d.book) d
done (clear area) d = changed (emptied (covers area) d.book) d
done (structural s) d = changed (shifted s d.book) d
done (add_sheet name) d = record (changed (with_sheet d.next_sheet name d.book) d) { next_sheet = d.next_sheet + 1 }
done (rename_sheet sheet name) d = changed (renamed sheet name d.book) d
done (clear_sheet sheet) d = changed (emptied (λ p. p.sheet == sheet) d.book) d
done (add_name name scope text) d = changed (named name scope text d.book) d
done (change_name name scope text) d = changed (named name scope text d.book) d
done (remove_name name scope) d = changed (unnamed name scope d.book) d
done (copy area) d = record d { clip = copy_of area d.book.cells }
done (cut area) d = record d { clip = moving area }
done (paste at) d = changed (with_clip d.clip at d.book) d
done begin d = opened d
done commit d = closed d.batch d
done suspend d = record d { suspended = true }
done resume d = record d { suspended = false }
done undo d = undone d.undo d
done redo d = redone d.redo d
done (value at) d = d
done (formula at) d = d
done (content at) d = d
done (precedents at) d = d
done (dependents at) d = d
done (name_value name sheet) d = d
done (try_formula sheet text) d = d
done (write_all cells) d = changed (with_contents cells d.book) d

-- a refusal changes nothing
abbrev pub unless_refused : Option Refusal → State → State → State
unless_refused None after before = after
unless_refused (Some r) after before = before

-- the session after an operation
abbrev pub next : Operation → State → State
next op d = unless_refused (cause op d) (done op d) d

-- the session after operations, one after the other
abbrev pub after_all : List Operation → State → State
after_all [] d = d
after_all (op ∷ ops) d = after_all ops (next op d)
