-- `walk_tested::page_here` meets its contract: refused before anything is written, or the walk's page. Assumes nothing.
use mathlib.Core.Path.{refl}
use Rattle.paper.proofs.Outcomes.{err_number, ok_number, told_on, numbered}
use Rattle.walk_tested.proofs.PageLaws.{page_refuses, page_answerable, page_few, page_pageable, page_filled}
use Rattle.walk_tested.proofs.page_here.Goals as goal

pub returns-in_err-test_place : goal.returns-in_err-test_place
returns-in_err-test_place c =
    let a = c.args in
    rw (told_on _ _ c.from_residual.ensures.1)
    (page_refuses a.order a.table.now a.probe.now a.reach a.place a.size a.room.now c.requires
    _ (err_number _ _ c.test_place.ensures _ c.in_err-test_place.was) (numbered _))

pub page_of-requires : goal.page_of-requires
page_of-requires c =
    let a = c.args in
    let s = a.table.now in
    let none = ok_number _ _ c.test_place.ensures _ c.in_ok-test_place.was in
    record {
      answerable = page_answerable a.order s a.probe.now a.reach a.place a.size a.room.now c.requires _ none refl;
      size_le_most_page = page_few s _ a.size c.requires;
      pageable = page_pageable a.order s a.probe.now a.reach a.place a.size a.room.now c.requires _ none refl;
    }

pub returns : goal.returns
returns c =
    let a = c.args in
    let none = ok_number _ _ c.test_place.ensures _ c.in_ok-test_place.was in
    page_filled a.order a.table.now a.probe.now a.reach a.place a.size a.room.now c.requires _ none refl _ _ c.page_of.ensures
