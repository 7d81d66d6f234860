use Rattle.std.proofs.Common.{rules}
use Rattle.states.specs.Saved.{save}
use Rattle.states.proofs.Parts.{three_written}
use Rattle.states.proofs.saved.save_state.Goals as goal

pub returns : goal.returns
unfolding save
returns c =
    rw (
      three_written c.copy_from_slice.new.self c.copy_from_slice-2.new.self c.args.s.now c.location_in.result (search rules) (search rules) c.told-s,
      c.copy_from_slice.ensures.after,
      c.copy_from_slice-2.ensures.after,
      c.stage_numbers.ensures,
      c.levels_numbers.ensures,
      c.levels_in.ensures,
      c.location_in.ensures,
    )
