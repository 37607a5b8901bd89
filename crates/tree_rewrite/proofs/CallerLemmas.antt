-- The laws, for the proofs of callers.
use Rattle.shift_core.specs.Form.{form_of}
use Rattle.shift_core.specs.Tables.{place_after, place_before}
use Rattle.shift_core.proofs.PlaceLaws.{place_moved_returns, place_returned_goes}
use Rattle.tree_rewrite.specs.Laws.{ProperStays, ProperFits, FitStays, LevelsStay, OthersStay, SheetsFollow, ComesBackByReferences, CarriedComesBack, HomesFollow, PastesWell}
use Rattle.tree_rewrite.specs.declared.direction.Direction.TheVariants.{Forward, Backward}
use Rattle.tree_rewrite.proofs.Inside.{home_in-inside, tree_in-fits}
use Rattle.tree_rewrite.proofs.Levels.{proper-tree_in, proper-fits, depth_of-tree_in, level-tree_in, others-mapped}
use Rattle.tree_rewrite.proofs.OnSheets.{tree_in-sheet}
use Rattle.tree_rewrite.proofs.Pastes.{pasted-depth, pasted-fits, pasted-proper, pasted-sheet, pasted-stays}
use Rattle.tree_rewrite.proofs.Returns.{references-back, back-references, carried-references, home-back}

pub proper-stays : ProperStays
proper-stays s t sound p = (proper-tree_in Forward s t sound p, proper-tree_in Backward s t sound p)

pub proper-fit : ProperFits
proper-fit t p = proper-fits t p

pub fit-stays : FitStays
fit-stays s t sound p = (tree_in-fits Forward s t sound p, tree_in-fits Backward s t sound p)

pub levels-stay : LevelsStay
levels-stay = record {
  depth = λ s t. (depth_of-tree_in Forward s t, depth_of-tree_in Backward s t);
  outermost = λ s t. (level-tree_in Forward s t, level-tree_in Backward s t);
}

pub others-stay : OthersStay
others-stay s t h = (others-mapped _ _ t h, others-mapped _ _ t h)

pub sheets-follow : SheetsFollow
sheets-follow = record {
  forward = λ s t after h. tree_in-sheet Forward s after t h;
  backward = λ s t before h. tree_in-sheet Backward s before t h;
}

pub comes_back-by_references : ComesBackByReferences
comes_back-by_references s t sound p = (references-back s t, back-references s t sound p)

pub carried-comes_back : CarriedComesBack
carried-comes_back s t sound p h = back-references s t sound p (carried-references s t sound p h)

pub homes-follow : HomesFollow
homes-follow = record {
  inside_after = λ s home other sound i h. home_in-inside Forward s home other sound i h;
  inside_before = λ s home other sound i h. home_in-inside Backward s home other sound i h;
  come_back = λ s home other sound i h. home-back (place_after s) (place_before s) home other i (λ p q j e. place_moved_returns (form_of s) p q sound j e) h;
  go_forth = λ s home other sound i h. home-back (place_before s) (place_after s) home other i (λ p q j e. place_returned_goes (form_of s) q p sound j e) h;
}

pub pastes-well : PastesWell
pastes-well = record { proper = pasted-proper; depth = pasted-depth; listed = pasted-sheet; fits = pasted-fits; stays = pasted-stays }
