-- `ait_numbers::kinds::described_out` meets its contract, case by case.
use Rattle.ait_numbers.proofs.kinds.described_out.Goals as goal

pub returns-in-Application : goal.returns-in-Application
returns-in-Application c = rw c.in-Application.is c.application_out.ensures

pub returns-in-Names : goal.returns-in-Names
returns-in-Names c = rw c.in-Names.is c.names_out.ensures

pub returns-in-Local : goal.returns-in-Local
returns-in-Local c = rw c.in-Local.is c.local_out.ensures

pub returns-in-Remote : goal.returns-in-Remote
returns-in-Remote c = rw c.in-Remote.is c.remote_out.ensures

pub returns-in-Bases : goal.returns-in-Bases
returns-in-Bases c = rw c.in-Bases.is c.bases_out.ensures

pub returns-in-Selector : goal.returns-in-Selector
returns-in-Selector c = rw c.in-Selector.is c.selector_out.ensures

pub returns-in-Identifiers : goal.returns-in-Identifiers
returns-in-Identifiers c = rw c.in-Identifiers.is c.identifiers_out.ensures

pub returns-in-Path : goal.returns-in-Path
returns-in-Path c = rw c.in-Path.is c.path_out.ensures

pub returns-in-Raw : goal.returns-in-Raw
returns-in-Raw c = rw c.in-Raw.is c.raw_out.ensures
