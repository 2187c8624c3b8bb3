mod Polls
mod Once
mod Filled
mod Absent
mod Sorts
mod Tables
mod Views
