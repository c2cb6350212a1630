mod Complete
mod Inputs
