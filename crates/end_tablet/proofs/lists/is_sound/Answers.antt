-- `end_tablet::lists::is_sound` meets its contract: fields and items together are the definition. Assumes nothing.
use Rattle.end_tablet.proofs.ListLaws.{unsound_fields, fields_few, sound_items}
use Rattle.end_tablet.proofs.lists.is_sound.Goals as goal

pub returns-then-not-fields_hold : goal.returns-then-not-fields_hold
returns-then-not-fields_hold c = unsound_fields c.args.l c.args.room.now c.fields_hold.ensures.1 _ c.fields_hold.ensures.0 c.if-not-fields_hold.true

pub items_hold-requires : goal.items_hold-requires
items_hold-requires c = fields_few c.args.l c.args.room.now c.fields_hold.ensures.1 _ c.fields_hold.ensures.0 c.if-not-fields_hold.false

pub returns : goal.returns
returns c =
    let args = c.args in
    sound_items args.l args.room.now c.fields_hold.ensures.1 _ c.fields_hold.ensures.0 c.if-not-fields_hold.false _ c.items_hold.ensures
