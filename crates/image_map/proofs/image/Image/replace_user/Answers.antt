use Rattle.image_map.proofs.States.{resized_twice}
use Rattle.image_map.proofs.image.Image.replace_user.Goals as goal

pub returns-clause-replaces : goal.returns-clause-replaces
returns-clause-replaces g c = resized_twice _ _ _ _ _ c.requires.user c.resize_user.ensures.resizes c.resize_user-2.ensures.resizes
