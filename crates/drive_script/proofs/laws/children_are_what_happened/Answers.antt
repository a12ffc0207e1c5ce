use Rattle.drive_script.proofs.Births.{script-born, script-birth}
use Rattle.drive_script.proofs.laws.children_are_what_happened.Goals as goal

pub returns : goal.returns
returns c = record {
  born = λ lines s before after path child t p q h parts made bears there lives. script-born lines s before after path child t p h parts made bears q there lives;
  alone = λ lines s before after path child t p c h parts made bears there. (script-birth lines s before after path child t p h parts made bears c there).story_is;
  counted = λ lines s before after path child t p c h parts made bears there. (script-birth lines s before after path child t p h parts made bears c there).counted;
}
