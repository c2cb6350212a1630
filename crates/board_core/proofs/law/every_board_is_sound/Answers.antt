use Rattle.board_core.proofs.Keeps.{is_determined, every_board_is_sound, lead_keeps}
use Rattle.board_core.proofs.law.every_board_is_sound.Goals as goal

pub returns-clause-determined : goal.returns-clause-determined
returns-clause-determined g c = is_determined

pub returns-clause-sound : goal.returns-clause-sound
returns-clause-sound g c = every_board_is_sound g.V.Standing.stands

pub returns-clause-kept : goal.returns-clause-kept
returns-clause-kept g c = lead_keeps g.V.Standing.stands
