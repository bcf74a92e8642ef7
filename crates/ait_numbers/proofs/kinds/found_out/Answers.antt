-- `ait_numbers::kinds::found_out` meets its contract, case by case.
use Rattle.ait_numbers.proofs.kinds.found_out.Goals as goal

pub returns-in-Profile : goal.returns-in-Profile
returns-in-Profile c = rw c.in-Profile.is c.profile_out.ensures

pub returns-in-Label : goal.returns-in-Label
returns-in-Label c = rw c.in-Label.is c.label_item_out.ensures

pub returns-in-Name : goal.returns-in-Name
returns-in-Name c = rw c.in-Name.is c.name_out.ensures

pub returns-in-Base : goal.returns-in-Base
returns-in-Base c = rw c.in-Base.is c.base_out.ensures

pub returns-in-Identifier : goal.returns-in-Identifier
returns-in-Identifier c = rw c.in-Identifier.is c.identifier_out.ensures
